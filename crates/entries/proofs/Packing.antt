-- Entries put one behind the other, and read again. Assumes nothing.
use Rattle.std.proofs.Common.{◌≡◌, ℕ, zero, suc, ◌+◌, ◌-◌, ◌*◌, ◌<◌, ◌≤◌, Bool, true, cond, List, [], ◌∷◌, ◌++◌, length, get_or, map, take, drop, sym, refl, ap, ◌∙◌, mul-suc, arith}
use Rattle.contents.specs.Field.{number, part}
use Rattle.entries.specs.Bytes.{count_bytes, entries_of, entry_at, entry_bytes, entry_of, packed}
use Rattle.parts.specs.Tick.{live}
use Rattle.parts.specs.declared.account.Entry.{Entry}
use Rattle.service_rules.specs.Memory.{live_of, recorded}
use Rattle.std.proofs.lemmas.List.Elements.{filter-append}
use Rattle.std.proofs.lemmas.List.Filters.{length-filter_more}
use Rattle.std.proofs.lemmas.List.{append_assoc, drop-drop, drop-take, flat_map_more, length-append, length_push, length-take-le, map-append, take_at, take-take, take-append-drop}
use Rattle.std.specs.List.{flat_map}
use Rattle.std.specs.Simd.{first_chunks}

-- what stands at the front once a field was put behind it
pub put-front : (out field new : List ℕ) (at : ℕ) → at + length field ≤ length out → new ≡ take at out ++ (field ++ drop (at + length field) out)
    → take (at + length field) new ≡ take at out ++ field
put-front out field new at h e =
    let l : length (take at out ++ field) ≡ at + length field = length-append (take at out) field ∙ ap (λ (n : ℕ). n + length field) (length-take-le at out (omega arith)) in
    ap (take (at + length field)) (e ∙ sym (append_assoc (take at out) field (drop (at + length field) out)))
    ∙ take_at (take at out ++ field) (drop (at + length field) out) (at + length field) l

-- there is room for one more
pub room-one : (t lag i : ℕ) (es : List Entry) → i < length es → live t lag (get_or es i record { digest = 0; tick = 0 }).tick ≡ true
    → length (live_of t lag (take i es)) + 1 ≤ length (live_of t lag es)
room-one t lag i es h y =
    let n = length-filter_more (λ (x : Entry). live t lag x.tick) es i record { digest = 0; tick = 0 } h in
    let more : length (live_of t lag (take (i + 1) es)) ≡ length (live_of t lag (take i es)) + 1 =
    n ∙ ap (λ (b : Bool). length (live_of t lag (take i es)) + cond b 1 0) y in
    let all : live_of t lag es ≡ live_of t lag (take (i + 1) es) ++ live_of t lag (drop (i + 1) es) =
    ap (live_of t lag) (sym (take-append-drop (i + 1) es)) ∙ filter-append (λ (x : Entry). live t lag x.tick) (take (i + 1) es) (drop (i + 1) es) in
    omega (arith, more, ap length all, length-append (live_of t lag (take (i + 1) es)) (live_of t lag (drop (i + 1) es)))

pub length-entry_bytes : (e : Entry) → length (entry_bytes e) ≡ 24
unfolding entry_bytes
length-entry_bytes e = refl

pub length-count_bytes : (n : ℕ) → length (count_bytes n) ≡ 2
unfolding count_bytes
length-count_bytes n = refl

pub length-joined : (es : List Entry) → length (flat_map entry_bytes es) ≡ 24 * length es
length-joined [] = refl
length-joined (e ∷ es) =
    let i = length-joined es in
    let l = length-append (entry_bytes e) (flat_map entry_bytes es) in
    let k = length-entry_bytes e in
    omega arith

pub length-packed : (es : List Entry) → length (packed es) ≡ 2 + 24 * length es
length-packed es = omega (arith, length-append (count_bytes (length es)) (flat_map entry_bytes es), length-count_bytes (length es), length-joined es)

-- all that is recorded: how many, those before, and the new one
pub recorded-bytes : (t lag d n : ℕ) (es : List Entry) (front : List ℕ) → n ≡ length (live_of t lag es) + 1
    → ((front ++ count_bytes n) ++ flat_map entry_bytes (live_of t lag es)) ++ entry_bytes record { digest = d; tick = t } ≡ front ++ packed (recorded t lag d es)
recorded-bytes t lag d n es front e =
    let f = live_of t lag es in
    let l : n ≡ length (recorded t lag d es) = omega (arith, length_push f record { digest = d; tick = t }) in
    flat_map_more entry_bytes (front ++ count_bytes n) f record { digest = d; tick = t }
    ∙ append_assoc front (count_bytes n) (flat_map entry_bytes (recorded t lag d es))
    ∙ ap (λ (k : ℕ). front ++ (count_bytes k ++ flat_map entry_bytes (recorded t lag d es))) l

-- one more chunk
chunks-more : (n k : ℕ) (xs : List ℕ) → first_chunks n (suc k) xs ≡ first_chunks n k xs ++ take n (drop (n * k) xs) ∷ []
chunks-more n zero xs = let e : n * 0 ≡ 0 = omega arith in ap (λ (i : ℕ). take n (drop i xs) ∷ []) (sym e)
chunks-more n (suc k) xs =
    let e : n * suc k ≡ n + n * k = omega (arith, mul-suc n k) in
    ap (λ (x : List (List ℕ)). take n xs ∷ x) (chunks-more n k (drop n xs))
    ∙ ap (λ (x : List ℕ). take n xs ∷ (first_chunks n k (drop n xs) ++ take n x ∷ [])) (drop-drop (n * k) n xs ∙ ap (λ (i : ℕ). drop i xs) (sym e))

-- the chunk at a place is the entry there
entry-chunk : (p : List ℕ) (m k : ℕ) → 24 * k + 24 ≤ m → entry_of (take 24 (drop (24 * k) (take m (drop 2 p)))) ≡ entry_at k p
entry-chunk p m k h =
    let at = 24 * k in
    let e : m ≡ at + (m - at) = omega arith in
    let rest = drop (2 + at) p in
    let row : take 24 (drop at (take m (drop 2 p))) ≡ take 24 rest =
    ap (λ (i : ℕ). take 24 (drop at (take i (drop 2 p)))) e
    ∙ ap (take 24) (drop-take at (m - at) (drop 2 p))
    ∙ take-take 24 (m - at) (drop at (drop 2 p)) (omega arith)
    ∙ ap (take 24) (drop-drop at 2 p) in
    let digest : number (part 0 16 (take 24 rest)) ≡ number (part (2 + at) 16 p) = ap number (take-take 16 24 rest (omega arith)) in
    let tick : number (part 16 8 (take 24 rest)) ≡ number (part (2 + at + 16) 8 p) =
    ap (λ (x : List ℕ). number (take 8 x)) (drop-take 16 8 rest)
    ∙ ap number (take-take 8 8 (drop 16 rest) (omega arith))
    ∙ ap (λ (x : List ℕ). number (take 8 x)) (drop-drop 16 (2 + at) p) in
    ap entry_of row ∙ ap (λ (n : ℕ). record { digest = n; tick = number (part 16 8 (take 24 rest)) }) digest ∙ ap (λ (n : ℕ). record { digest = number (part (2 + at) 16 p); tick = n }) tick

-- the entries behind the count, each in its chunk
pub entries-chunks : (p : List ℕ) (m k : ℕ) → 24 * k ≤ m → map entry_of (first_chunks 24 k (take m (drop 2 p))) ≡ entries_of k p
unfolding entries_of
entries-chunks p m zero h = refl
entries-chunks p m (suc k) h =
    let rest = take m (drop 2 p) in
    let chunk = take 24 (drop (24 * k) rest) in
    ap (map entry_of) (chunks-more 24 k rest)
    ∙ map-append entry_of (first_chunks 24 k rest) (chunk ∷ [])
    ∙ ap (λ (es : List Entry). es ++ entry_of chunk ∷ []) (entries-chunks p m k (omega arith))
    ∙ ap (λ (e : Entry). entries_of k p ++ e ∷ []) (entry-chunk p m k (omega arith))

pub entries-none : (p : List ℕ) (k : ℕ) → k ≡ 0 → entries_of k p ≡ []
unfolding entries_of
entries-none p k e = ap (λ (n : ℕ). entries_of n p) e
