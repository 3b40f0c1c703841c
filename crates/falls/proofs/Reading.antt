-- Entries in bytes are read back. Assumes nothing.
use Rattle.std.proofs.Common.{◌≡◌, ℕ, zero, suc, ◌+◌, ◌*◌, ◌<◌, ◌≤◌, Bool, true, false, cond, ltb, leb, List, [], ◌∷◌, ◌++◌, length, get_or, take, drop, Some, None, sym, refl, ap, ◌∙◌, arith}
use Rattle.codec.proofs.Numbers.{length-bytes_of, number-bytes_of}
use Rattle.contents.specs.Field.{bytes_of, number, part}
use Rattle.entries.proofs.Packing.{length-count_bytes, length-entry_bytes, length-packed}
use Rattle.entries.specs.Bytes.{Fits, count_bytes, count_in, entries_of, entry_at, entry_bytes, is_whole, measured_of, packed, unpacked}
use Rattle.halves.specs.Half.{Steady}
use Rattle.parts.specs.declared.account.Entry.{Entry}
use Rattle.std.proofs.ByRecursion.{All-get_or}
use Rattle.std.proofs.lemmas.List.{append_assoc, drop_at, drop-drop, length-append, take_all, take-append-le, take_at, take_more}
use Rattle.std.proofs.lemmas.Bool.{and_from, le-leb, le-ltb, ltb-false}
use Rattle.std.specs.List.{flat_map, AllByRecursion}

number-count : (n : ℕ) → n < 65536 → number (count_bytes n) ≡ n
unfolding count_bytes
number-count n h = number-bytes_of 2 n (omega arith)

front-count : (es : List Entry) → length es < 65536 → number (take 2 (packed es)) ≡ length es
front-count es h = ap number (take_at (count_bytes (length es)) (flat_map entry_bytes es) 2 (length-count_bytes (length es))) ∙ number-count (length es) h

-- how many bytes entries take
pub fitting : (es : List Entry) → length es ≤ 8192 → measured_of (packed es) ≡ Some (length (packed es))
fitting es h =
    let n = front-count es (omega arith) in
    let l = length-packed es in
    let k = number (take 2 (packed es)) in
    ap (λ (b : Bool). cond b None (cond (ltb 8192 k) None (Some (2 + 24 * k)))) (le-ltb (length (packed es)) 2 (omega arith))
    ∙ ap (λ (b : Bool). cond b None (Some (2 + 24 * k))) (le-ltb 8192 k (omega arith))
    ∙ ap (λ (i : ℕ). Some (2 + 24 * i)) n
    ∙ ap Some (sym l)

whole : (es : List Entry) → length es ≤ 8192 → is_whole (packed es) ≡ true
whole es h =
    let n = front-count es (omega arith) in
    let l = length-packed es in
    let k = number (take 2 (packed es)) in
    and_from (leb 2 (length (packed es))) _ (le-leb 2 (length (packed es)) (omega arith))
    (and_from (leb k 8192) _ (le-leb k 8192 (omega arith)) (le-leb (2 + 24 * k) (length (packed es)) (omega arith)))

count-packed : (es : List Entry) → length es ≤ 8192 → count_in (packed es) ≡ length es
count-packed es h = ap (λ (b : Bool). cond b (number (take 2 (packed es))) 0) (whole es h) ∙ front-count es (omega arith)

-- the bytes of an entry, at its place among all
drop-joined : (i : ℕ) (es : List Entry) (d : Entry) → i < length es → (rest : List ℕ) × (drop (24 * i) (flat_map entry_bytes es) ≡ entry_bytes (get_or es i d) ++ rest)
drop-joined i [] d h = absurd (omega arith)
drop-joined zero (e ∷ es) d h = (flat_map entry_bytes es, refl)
drop-joined (suc i) (e ∷ es) d h =
    let r = drop-joined i es d (omega arith) in
    let k : 24 * suc i ≡ 24 + 24 * i = omega arith in (
      r.0,
      ap (λ (n : ℕ). drop n (entry_bytes e ++ flat_map entry_bytes es)) k
          ∙ sym (drop-drop (24 * i) 24 (entry_bytes e ++ flat_map entry_bytes es))
          ∙ ap (drop (24 * i)) (drop_at (entry_bytes e) (flat_map entry_bytes es) 24 (length-entry_bytes e))
          ∙ r.1,
    )

digest-of : (e : Entry) (rest : List ℕ) → Fits e → number (take 16 (entry_bytes e ++ rest)) ≡ e.digest
unfolding entry_bytes
digest-of e rest f =
    ap (λ (x : List ℕ). number (take 16 x)) (append_assoc (bytes_of 16 e.digest) (bytes_of 8 e.tick) rest)
    ∙ ap number (take_at (bytes_of 16 e.digest) (bytes_of 8 e.tick ++ rest) 16 (length-bytes_of 16 e.digest))
    ∙ number-bytes_of 16 e.digest f.0

tick-of : (e : Entry) (rest : List ℕ) → Fits e → number (take 8 (drop 16 (entry_bytes e ++ rest))) ≡ e.tick
unfolding entry_bytes
tick-of e rest f =
    ap (λ (x : List ℕ). number (take 8 (drop 16 x))) (append_assoc (bytes_of 16 e.digest) (bytes_of 8 e.tick) rest)
    ∙ ap (λ (x : List ℕ). number (take 8 x)) (drop_at (bytes_of 16 e.digest) (bytes_of 8 e.tick ++ rest) 16 (length-bytes_of 16 e.digest))
    ∙ ap number (take_at (bytes_of 8 e.tick) rest 8 (length-bytes_of 8 e.tick))
    ∙ number-bytes_of 8 e.tick f.1

entry-back : (es : List Entry) (i : ℕ) (d : Entry) → i < length es → AllByRecursion Fits es → entry_at i (packed es) ≡ get_or es i d
entry-back es i d h f =
    let c = count_bytes (length es) in
    let j = flat_map entry_bytes es in
    let r = drop-joined i es d h in
    let e = get_or es i d in
    let fit = All-get_or Fits es i d h f in
    let start : drop (2 + 24 * i) (packed es) ≡ entry_bytes e ++ r.0 =
    sym (drop-drop (24 * i) 2 (packed es)) ∙ ap (drop (24 * i)) (drop_at c j 2 (length-count_bytes (length es))) ∙ r.1 in
    let dg : number (part (2 + 24 * i) 16 (packed es)) ≡ e.digest = ap (λ (x : List ℕ). number (take 16 x)) start ∙ digest-of e r.0 fit in
    let tk : number (part (2 + 24 * i + 16) 8 (packed es)) ≡ e.tick =
    ap (λ (x : List ℕ). number (take 8 x)) (sym (drop-drop 16 (2 + 24 * i) (packed es))) ∙ ap (λ (x : List ℕ). number (take 8 (drop 16 x))) start ∙ tick-of e r.0 fit in
    same-entry _ _ _ _ dg tk
  where
    same-entry : (a b x y : ℕ) → a ≡ x → b ≡ y → ◌≡◌ {A = Entry} record { digest = a; tick = b } record { digest = x; tick = y }
    same-entry a b x y p q = cc

entries-back : (n : ℕ) (es : List Entry) → n ≤ length es → AllByRecursion Fits es → entries_of n (packed es) ≡ take n es
unfolding entries_of
entries-back zero es h f = refl
entries-back (suc n) es h f =
    let d : Entry = record { digest = 0; tick = 0 } in
    let k : suc n ≡ n + 1 = omega arith in
    ap (λ (x : List Entry). x ++ entry_at n (packed es) ∷ []) (entries-back n es (omega arith) f)
    ∙ ap (λ (x : Entry). take n es ++ x ∷ []) (entry-back es n d (omega arith) f)
    ∙ sym (take_more es n d (omega arith))
    ∙ ap (λ (x : ℕ). take x es) (sym k)

-- what was packed is unpacked
pub unpacked-packed : (es : List Entry) → length es ≤ 8192 → AllByRecursion Fits es → unpacked (packed es) ≡ es
unpacked-packed es h f =
    ap (λ (n : ℕ). entries_of n (packed es)) (count-packed es h) ∙ entries-back (length es) es (omega arith) f ∙ take_all (length es) es (omega arith)

-- what follows entries does not matter
pub steady : Steady measured_of
steady p rest e = go (ltb (length p) 2) refl e
  where
    go : (v : Bool) → ltb (length p) 2 ≡ v → cond v None (cond (ltb 8192 (number (take 2 p))) None (Some (2 + 24 * number (take 2 p)))) ≡ Some (length p) → measured_of (p ++ rest) ≡ Some (length p)
    go true s k = let z : ◌≡◌ {A = ℕ} 0 1 = cc in absurd (omega arith)
    go false s k =
        let h : 2 ≤ length p = ltb-false (length p) 2 s in
        let l : 2 ≤ length (p ++ rest) = omega (arith, length-append p rest) in
        ap (λ (v : Bool). cond v None (cond (ltb 8192 (number (take 2 (p ++ rest)))) None (Some (2 + 24 * number (take 2 (p ++ rest)))))) (le-ltb (length (p ++ rest)) 2 l)
        ∙ ap (λ (x : List ℕ). cond (ltb 8192 (number x)) None (Some (2 + 24 * number x))) (take-append-le 2 p rest h)
        ∙ k
