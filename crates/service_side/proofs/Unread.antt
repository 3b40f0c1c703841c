-- A word that can't be read. Assumes nothing.
use Rattle.locked.specs.Locked.{Bytes, Locks}
use Rattle.parts.specs.declared.fault.Fault.{Fault}
use Rattle.parts.specs.declared.word.Key.{Key}
use Rattle.service_rules.specs.Service.{View}
use Rattle.service_side.specs.Hear.{Heard, HearsWord, Tells}
use Rattle.service_side.specs.Service.{Read, after_word, answer_to, read_at_service, wrong}
use Rattle.std.proofs.Common.{◌≡◌, sym, ap, subst, Err}

-- its fault is told, and nothing has changed
pub unread : (l : Locks) (v : View) (k : Key) (w : Bytes) (f : Fault) (h : Heard) → read_at_service l k w ≡ wrong f → Tells l (Err f) h → HearsWord l v k w h v
unread l v k w f h e t = record {
  tells = subst (λ (x : Read). Tells l (answer_to l v x) h) (sym e) t;
  after = ap (λ (x : Read). after_word l v x) (sym e);
}
