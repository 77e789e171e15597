-- 01, "Where a call is turned back", and 02: the numbers of the table, by the names that the code has for them, and how checks follow each other.
use Rattle.std.specs.Prelude.{Bool, cond, List, [], ◌∷◌, ℕ, eqb, Result, Ok, Err}
use Rattle.refusals.specs.declared.Refusal.{Refusal}

abbrev pub SETTINGS : ℕ
SETTINGS = 1

abbrev pub TRUNCATED : ℕ
TRUNCATED = 2

abbrev pub VERSION : ℕ
VERSION = 3

abbrev pub PADDING : ℕ
PADDING = 4

abbrev pub payload_too_large : ℕ
payload_too_large = 5

abbrev pub payload_type : ℕ
payload_type = 6

abbrev pub SSRC : ℕ
SSRC = 7

abbrev pub CLOCK : ℕ
CLOCK = 8

abbrev pub no_rtx : ℕ
no_rtx = 9

abbrev pub no_media : ℕ
no_media = 10

abbrev pub no_original_number : ℕ
no_original_number = 11

abbrev pub gaps_full : ℕ
gaps_full = 12

abbrev pub entries_full : ℕ
entries_full = 13

abbrev pub COUNT : ℕ
COUNT = 14

abbrev pub OUTPUT : ℕ
OUTPUT = 15

abbrev pub SESSION : ℕ
SESSION = 16

abbrev pub nack_entries : ℕ
nack_entries = 17

abbrev pub settings_line : ℕ
settings_line = 20

abbrev pub line_version : ℕ
line_version = 21

-- all of them
abbrev pub numbers : List ℕ
numbers =
    SETTINGS ∷ TRUNCATED ∷ VERSION ∷ PADDING ∷ payload_too_large ∷ payload_type ∷ SSRC ∷ CLOCK ∷ no_rtx ∷ no_media ∷ no_original_number ∷ gaps_full ∷ entries_full ∷ COUNT ∷ OUTPUT ∷ SESSION ∷ nack_entries ∷ settings_line ∷ line_version ∷ []

-- the number of a refusal
abbrev pub number : Refusal → ℕ
number Refusal.Settings = SETTINGS
number Refusal.Truncated = TRUNCATED
number Refusal.Version = VERSION
number Refusal.Padding = PADDING
number Refusal.PayloadTooLarge = payload_too_large
number Refusal.PayloadType = payload_type
number Refusal.Ssrc = SSRC
number Refusal.Clock = CLOCK
number Refusal.NoRtx = no_rtx
number Refusal.NoMedia = no_media
number Refusal.NoOriginalNumber = no_original_number
number Refusal.GapsFull = gaps_full
number Refusal.EntriesFull = entries_full
number Refusal.Count = COUNT
number Refusal.Output = OUTPUT
number Refusal.Session = SESSION
number Refusal.NackEntries = nack_entries
number Refusal.SettingsLine = settings_line
number Refusal.LineVersion = line_version

-- the number under which a call was refused; 0 where it was not
abbrev pub refusal_of : {A : Type 0} → Result A Refusal → ℕ
refusal_of (Ok x) = 0
refusal_of (Err e) = number e

-- what a call came to: its value, or the number under which it was refused
abbrev pub numbered : {A : Type 0} → Result A Refusal → Result A ℕ
numbered (Ok x) = Ok x
numbered (Err e) = Err (number e)

-- a check's number, where its test is true; 0 is none
unfoldable pub refuse_if : Bool → ℕ → ℕ
refuse_if t number = cond t number 0

-- "Checks run downwards within a call": the second refusal counts only where the first is 0, which is none
unfoldable pub or_else : ℕ → ℕ → ℕ
or_else first second = cond (eqb first 0) second first
