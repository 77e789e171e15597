-- Numbers in fields of w columns, "decimal, right-justified after blanks" (requests 10 and 13), both ways.
use Rattle.std.specs.Prelude.{cond, ◌&&◌, ◌||◌, List, [], ◌∷◌, ◌++◌, ℕ, zero, suc, ◌+◌, ◌*◌, ◌-◌, ◌/◌, ◌%◌, ◌^◌, ◌<◌, ◌≡◌, eqb, leb, ltb, length, get_or, replicate, Option, None, Some}

-- ---- written

-- the decimal digits of n, the last so many where there are more
unfoldable pub decimal_up_to : ℕ → ℕ → List ℕ
decimal_up_to zero n = []
decimal_up_to (suc k) n = cond (ltb n 10) ((48 + n) ∷ []) (decimal_up_to k (n / 10) ++ ((48 + n % 10) ∷ []))

abbrev pub justified_in : ℕ → List ℕ → List ℕ
justified_in w digits = replicate (w - length digits) 32 ++ digits

-- "right-justified after blanks" in w columns
unfoldable pub justified : ℕ → ℕ → List ℕ
justified w n = justified_in w (decimal_up_to w n)

-- ---- read

-- the number whose digits are those of v and the character b behind them, at most 2^64 − 1
unfoldable pub with_digit : ℕ → ℕ → Option ℕ
with_digit v b = cond (leb 48 b && (leb b 57 && ltb (10 * v + (b - 48)) (2 ^ 64))) (Some (10 * v + (b - 48))) None

unfoldable pub next_digit : Option ℕ → ℕ → Option ℕ
unfolding with_digit
next_digit None b = None
next_digit (Some v) b = with_digit v b

-- a number, and each of these characters behind its digits
unfoldable pub digits_of : List ℕ → Option ℕ → Option ℕ
unfolding next_digit
digits_of [] o = o
digits_of (b ∷ bs) o = digits_of bs (next_digit o b)

-- "at least one digit", no "leading zero before another digit"
unfoldable pub number_of : List ℕ → Option ℕ
unfolding digits_of
number_of s = cond (eqb (length s) 0 || (eqb (get_or s 0 0) 48 && ltb 1 (length s))) None (digits_of s (Some 0))

-- what follows the blanks, if any
unfoldable pub after_blanks : List ℕ → List ℕ
after_blanks [] = []
after_blanks (b ∷ s) = cond (eqb b 32) (after_blanks s) (b ∷ s)

-- the number that a field is: "blanks, if any, followed by at least one digit"
unfoldable pub field_number : List ℕ → Option ℕ
unfolding after_blanks number_of
field_number s = number_of (after_blanks s)

-- ---- both ways

-- s is how n is written, in as many columns as s has, and n is a number of 64 bits that they hold
pub record Writes (s : List ℕ) (n : ℕ) : Type 0 where
  pub some_column : 0 < length s
  pub held : n < 10 ^ length s
  pub word : n < 2 ^ 64
  pub text : s ≡ justified (length s) n

-- what is written is read back, and only what would be written is read: at every width
pub record Inverse (s : List ℕ) (n : ℕ) : Type 0 where
  pub back : Writes s n → field_number s ≡ Some n
  pub only : field_number s ≡ Some n → Writes s n
