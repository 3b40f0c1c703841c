-- The hex of the kit's crate is that of the words of a line.
use Rattle.std.proofs.Common.{◌≡◌, ℕ, suc, false, eqb, true≢false, length, ◌+◌, ◌-◌, ◌*◌, ◌/◌, ◌%◌, ◌<◌, ◌≤◌, List, [], ◌∷◌, ◌++◌, take, drop, get_or, slice_index, refl, ap, ◌∙◌, append-nil, length-drop, arith}
use Rattle.std.proofs.lemmas.List.{take_all, drop_all, take_at}
use borrow.Rule.Slice.PartMut.{put_mid, post_of}
use Rattle.std.proofs.lemmas.List.FromFn.{get_or-map-range_with_len}
use Rattle.hex.specs.Hex.{encode_with, lower_digits}
use Rattle.words.specs.Laws.{digit_of, hex_text, bytes_text}

digit-same : (n : ℕ) → n < 16 → slice_index lower_digits n ≡ digit_of n
digit-same n h = get_or-map-range_with_len digit_of 0 16 n n 0 h (omega arith)

pub encode-text : (bytes : List ℕ) → ((i : ℕ) → get_or bytes i 0 < 256) → encode_with lower_digits bytes ≡ hex_text bytes
unfolding encode_with
encode-text [] h = refl
encode-text (b ∷ bytes) h =
    let byte : b < 256 = h 0 in
    (λ i. digit-same (b / 16) (omega arith) i ∷ digit-same (b % 16) (omega arith) i ∷ encode-text bytes (λ k. h (suc k)) i)

-- of one byte or more no dash is shown
pub some-text : (bytes : List ℕ) → eqb (length bytes) 0 ≡ false → hex_text bytes ≡ bytes_text bytes
some-text [] some = absurd (true≢false some)
some-text (b ∷ bytes) some = refl

-- digits laid in the room behind the bytes before it
pub laid : (bytes out digits : List ℕ) (at : ℕ) → length out ≡ at + 2 * length bytes → digits ≡ encode_with lower_digits bytes → ((i : ℕ) → get_or bytes i 0 < 256) → put_mid at (length out - at) out digits ≡ take at out ++ hex_text bytes
laid bytes out digits at n d h =
    let post : post_of at (length out - at) out ≡ [] = drop_all (length out - at) (drop at out) (omega (arith, length-drop at out)) in
    ap (λ (l : List ℕ). take at out ++ (digits ++ l)) post
    ∙ ap (λ (l : List ℕ). take at out ++ l) (append-nil digits ∙ d ∙ encode-text bytes h)

-- what stood before the room stands there yet
pub before-room : (old more : List ℕ) (at all : ℕ) → length old ≡ at → at ≤ all → take at (take all old ++ more) ≡ old
before-room old more at all n h = ap (λ (l : List ℕ). take at (l ++ more)) (take_all all old (omega arith)) ∙ take_at old more at n
