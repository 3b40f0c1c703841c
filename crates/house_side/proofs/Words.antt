-- A word that was framed, and one that was read or can't be. Assumes nothing.
use Rattle.std.proofs.Common.{◌≡◌, ℕ, Ok, Err, Result, sym, ap, ◌∙◌, subst}
use Rattle.house_rules.specs.House.{Decides, Home, after, answered, logged_in}
use Rattle.house_rules.specs.Give.{Reply}
use Rattle.house_side.specs.Hear.{Heard, HearsWord, ReadAs, Tells, TellsOf, login_event}
use Rattle.house_side.specs.House.{Read, after_word, logs, read_at_house, read_frame, wrong}
use Rattle.house_side.specs.declared.reading.Reading.{Reading}
use Rattle.locked.specs.Locked.{Bytes, Locks}
use Rattle.locked.specs.declared.unopened.Unopened.{Unopened}
use Rattle.parts.specs.declared.fault.Fault.{Fault}
use Rattle.parts.specs.declared.word.Asking.{Asking}
use Rattle.parts.specs.declared.word.Login.{Login}
use Rattle.parts.specs.declared.word.Ticket.{Ticket}
use Rattle.wire.specs.Word.{Frame, framed}

-- what a frame is, the word is
pub read-frame : (l : Locks) (h : Home) (w : Bytes) (f : Frame) (r : Result Reading Unopened) → framed w ≡ Ok f → ReadAs (read_frame l h f) r → ReadAs (read_at_house l h w) r
read-frame l h w f r e x =
    subst (λ (y : Result Frame Fault). ReadAs (framed_at y) r) (sym e) x
  where
    framed_at : Result Frame Fault → Read
    framed_at y = elim y [ Ok f ↦ read_frame l h f | Err f ↦ wrong f ]

-- what is told and left of what was read, is told and left of the word
pub heard-as : (l : Locks) (h : Home) (w : Bytes) (x : Read) (y : Heard) (h' : Home) → read_at_house l h w ≡ x → TellsOf l h x y → h' ≡ after_word l h x → HearsWord l h w y h'
heard-as l h w x y h' e t a = record {
  tells = subst (λ (z : Read). TellsOf l h z y) (sym e) t;
  after = a ∙ ap (λ (z : Read). after_word l h z) (sym e);
}

-- what is told of an answer to a login
pub told-login : (l : Locks) (h : Home) (a : ℕ) (x : Login) (r : Reply) (y : Heard) → r ≡ logged_in h a x → Tells l (login_event r) r y → TellsOf l h (logs a x) y
told-login l h a x r y e t = subst (λ (z : Reply). Tells l (login_event z) z y) e t

-- a decision, by the digest of the very key and number
pub decided : (h : Home) (t : Ticket) (q : Asking) (d d' : ℕ) (r : Reply) (h' : Home) → d ≡ d' → Decides h t q d r h' → (r ≡ answered h t q d') × (h' ≡ after h t q d')
decided h t q d d' r h' e x = (x.answer ∙ ap (λ (n : ℕ). answered h t q n) e, x.after ∙ ap (λ (n : ℕ). after h t q n) e)
