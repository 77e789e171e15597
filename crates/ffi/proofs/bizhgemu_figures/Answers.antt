-- `bizhgemu_figures`: the figures of the queue that the words stand for.
use mathlib.Core.Path.{◌≡◌, sym, ap, ◌∙◌}
use mathlib.Core.Bool.{true}
use Rattle.model.specs.declared.Session.{Session}
use Rattle.ffi_words.specs.Words.{readable, session_of}
use Rattle.ffi.specs.Exported.{queue_figures, figures}
use Rattle.ffi.proofs.Given.{is_read}
use Rattle.ffi.proofs.bizhgemu_figures.Goals as goal

pub returns-in-Some : goal.returns-in-Some
unfolding figures session_of
returns-in-Some c =
    let w = c.args.session in
    let h : (readable w ≡ true) × (c.in-Some.s ≡ session_of w) = is_read w (sym c.in-Some.is ∙ c.read.ensures) in
    rw h.0 (c.figures_told.ensures ∙ ap (λ (x : Session). queue_figures x.queue) h.1)
