-- Data of any length: bytes past the fixed fields are ignored where no list follows, and missing ones read as zero, which is
-- how the code reads short data. Assumes nothing.
use Rattle.std.specs.Prelude.{Result}
use Rattle.protocol.specs.declared.Refusal.{Refusal}
use mathlib.Core.Path.{◌≡◌, refl, ap, sym, ◌∙◌}
use mathlib.Core.Bool.{Bool, true, false}
use mathlib.Core.List.{List, [], ◌∷◌, ◌++◌}
use Prim.Native.Nat.{ℕ, zero, suc, ◌+◌, ◌-◌, ◌≤◌, ◌<◌}
use native.Mathlib.Nat.{sub-zero}
use native.Mathlib.Omega.{arith}
use borrow.Author.Tests.{eqb-true, eqb-false, le-leb}
use lib.Dec.{leb, eqb}
use lib.ListN.{length, get_or, take, drop, replicate, length-append, length-replicate, get_or-append}
use lib.Seq.{drop-append-le}
use Rattle.theory.specs.Logic.{when◌then◌else◌, unless◌answer◌then◌, ◌and◌}
use Rattle.theory.specs.Bytes.{put}
use Rattle.theory.proofs.Tests.{by_cases, inside, tests}
use Rattle.theory.proofs.Bytes.{put-nil, length-bytes_at}
use Rattle.theory.proofs.Lists.{get_or-same, take-replicate}
use Rattle.wire.proofs.Le.{le-alike, number-alike}
use Rattle.wire.specs.Le.{le, number}
use Rattle.protocol.specs.Opcodes.{opcode_rows, opcode_row, supported, fixed_size, longest_fixed}
use Rattle.protocol.proofs.Rows.{fixed-is, fixed-longest, data-long}
use Rattle.frame.specs.declared.Ask.{Ask}
use Rattle.frame.specs.Frame.{group_at, member_at, data_at, longest, opcode_of, group_of, target_of, data_of, id_at, object_size, flags_at, kind_at, type_at, headers_at}
use Rattle.frame.specs.Fields.{id_of, object_valid, flags_valid, kind_valid, create_in, modify_in, query_in, destroy_in, metadata_in, get_in, set_in, mode_in, use_in, fields_of}
use Rattle.frame.specs.Ask.{usable, framed_of, ask_of}
use Rattle.frame.proofs.Steps.{last-long}

-- ---- data that reads alike in its first k bytes asks the same ----

choice : (t : Bool) (x x' y y' : Result Ask Refusal) → (t ≡ true → x ≡ x') → (t ≡ false → y ≡ y') → (when t then x else y) ≡ (when t then x' else y')
unfolding when◌then◌else◌
choice true x x' y y' f g = f refl
choice false x x' y y' f g = g refl

module _ (k : ℕ) (a d : List ℕ) (f : (i : ℕ) → i < k → get_or a i 0 ≡ get_or d i 0) (ids m : ℕ) where
  id-alike : object_size ≤ k → id_of a ≡ id_of d
  id-alike h = number-alike k a d f 4 id_at h

  object-alike : object_size ≤ k → object_valid ids a ≡ object_valid ids d
  unfolding object_valid
  object-alike h = rw (number-alike k a d f 2 0 (omega arith), id-alike h)

  flags-alike : kind_at ≤ k → flags_valid a ≡ flags_valid d
  unfolding flags_valid
  flags-alike h = rw (number-alike k a d f 8 flags_at h)

  kind-alike : kind_at < k → kind_valid ids a ≡ kind_valid ids d
  unfolding kind_valid
  kind-alike h = rw (object-alike (omega arith), flags-alike (omega arith), f kind_at h)

  create-alike : kind_at < k → create_in ids m a ≡ create_in ids m d
  unfolding create_in
  create-alike h = rw (kind-alike h, id-alike (omega arith), f kind_at h)

  modify-alike : kind_at < k → modify_in ids m a ≡ modify_in ids m d
  unfolding modify_in
  modify-alike h = rw (kind-alike h, id-alike (omega arith), f kind_at h)

  query-alike : kind_at ≤ k → query_in ids m a ≡ query_in ids m d
  unfolding query_in
  query-alike h = rw (object-alike (omega arith), flags-alike h, id-alike (omega arith))

  destroy-alike : object_size ≤ k → destroy_in ids m a ≡ destroy_in ids m d
  unfolding destroy_in
  destroy-alike h = rw (object-alike h, id-alike h)

  metadata-alike : headers_at ≤ k → metadata_in ids m a ≡ metadata_in ids m d
  unfolding metadata_in
  metadata-alike h = rw (object-alike (omega arith), id-alike (omega arith), f type_at (omega arith))

  get_alike : headers_at ≤ k → leb (length a) headers_at ≡ leb (length d) headers_at → get_in ids m a ≡ get_in ids m d
  unfolding get_in
  get_alike h l = rw (object-alike (omega arith), id-alike (omega arith), f type_at (omega arith), l)

  set-alike : object_size ≤ k → set_in ids m a ≡ set_in ids m d
  unfolding set_in
  set-alike h = rw (object-alike h, id-alike h)

  mode-alike : 1 ≤ k → mode_in m a ≡ mode_in m d
  unfolding mode_in
  mode-alike h = rw (f 0 h)

  use-alike : le a ≡ le d → use_in a ≡ use_in d
  unfolding use_in
  use-alike e = rw e

  -- these bytes hold the fixed fields; list use reads all bytes, and parts get asks whether any follow
  fields-alike : (op : ℕ) → supported op ≡ true → fixed_size op ≤ k → (op ≡ 0x01 → le a ≡ le d)
      → (op ≡ 0x0f → leb (length a) headers_at ≡ leb (length d) headers_at) → fields_of ids m op a ≡ fields_of ids m op d
  unfolding fields_of opcode_rows
  fields-alike op s h u l =
      choice (eqb op 0x00) _ _ _ _ (λ e. refl) (λ n0.
      choice (eqb op 0x01) _ _ _ _ (λ e. use-alike (u (eqb-true op 0x01 e))) (λ n1.
      choice (eqb op 0x0a) _ _ _ _ (λ e. create-alike (data-long op 0x0a k 17 h (eqb-true op 0x0a e) tt)) (λ na.
      choice (eqb op 0x0b) _ _ _ _ (λ e. modify-alike (data-long op 0x0b k 17 h (eqb-true op 0x0b e) tt)) (λ nb.
      choice (eqb op 0x0c) _ _ _ _ (λ e. query-alike (data-long op 0x0c k kind_at h (eqb-true op 0x0c e) tt)) (λ nc.
      choice (eqb op 0x0d) _ _ _ _ (λ e. destroy-alike (data-long op 0x0d k object_size h (eqb-true op 0x0d e) tt)) (λ nd.
      choice (eqb op 0x0e) _ _ _ _ (λ e. metadata-alike (data-long op 0x0e k headers_at h (eqb-true op 0x0e e) tt)) (λ ne.
      choice (eqb op 0x0f) _ _ _ _
      (λ e. let o = eqb-true op 0x0f e in get_alike (data-long op 0x0f k headers_at h o tt) (l o)) (λ nf.
      choice (eqb op 0x10) _ _ _ _ (λ e. set-alike (data-long op 0x10 k object_size h (eqb-true op 0x10 e) tt)) (λ ng.
      mode-alike
      (last-long op s (eqb-false op 0x00 n0) (eqb-false op 0x01 n1) (eqb-false op 0x0a na) (eqb-false op 0x0b nb)
      (eqb-false op 0x0c nc) (eqb-false op 0x0d nd) (eqb-false op 0x0e ne) (eqb-false op 0x0f nf)
      (eqb-false op 0x10 ng) k h))))))))))

-- ---- bytes more at the end of data ----

-- what follows the fixed fields is ignored where no list does: SPEC 13.2
pub rest-ignored : (ids m op : ℕ) (d x : List ℕ) → supported op ≡ true → (opcode_row op).listed ≡ false → fixed_size op ≤ length d
    → fields_of ids m op (d ++ x) ≡ fields_of ids m op d
unfolding opcode_row opcode_rows
rest-ignored ids m op d x s o h =
    fields-alike (fixed_size op) (d ++ x) d (λ i l. get_or-append d x 0 i (omega arith)) ids m op s (omega arith)
    (λ e. let z = rw e at o in cc) (λ e. let z = rw e at o in cc)

zeros-read : (d : List ℕ) (n i : ℕ) → get_or (d ++ replicate n 0) i 0 ≡ get_or d i 0
zeros-read [] n i = get_or-same n i 0
zeros-read (b ∷ d) n zero = refl
zeros-read (b ∷ d) n (suc i) = zeros-read d n i

-- each byte that is missing of the fixed fields reads as zero: SPEC 13.2
pub missing-zero : (ids m op n : ℕ) (d : List ℕ) → supported op ≡ true → length d + n ≤ fixed_size op
    → fields_of ids m op (d ++ replicate n 0) ≡ fields_of ids m op d
unfolding opcode_rows
missing-zero ids m op n d s h =
    fields-alike (fixed_size op) (d ++ replicate n 0) d (λ i l. zeros-read d n i) ids m op s (omega arith)
    (λ o. le-alike (d ++ replicate n 0) d (zeros-read d n))
    (λ o.
    let k : fixed_size op ≡ headers_at = rw o (sym (fixed-is 0x0f)) in
    let l : length (d ++ replicate n 0) ≡ length d + n = rw (length-append, length-replicate) in
    le-leb (length (d ++ replicate n 0)) headers_at (omega arith) ∙ sym (le-leb (length d) headers_at (omega arith)))

-- ---- bytes more at the end of a request ----

framed_alike : (members ids in_use : ℕ) (marked : Bool) (group op m : ℕ) (a d : List ℕ)
    → (supported op ≡ true → fields_of ids m op a ≡ fields_of ids m op d)
    → framed_of members ids in_use marked group op m a ≡ framed_of members ids in_use marked group op m d
unfolding framed_of usable ◌and◌ unless◌answer◌then◌
framed_alike members ids in_use marked group op m a d f = by_cases (supported op) (λ e. rw (f e)) (λ e. rw e)

module _ (r x : List ℕ) (long : data_at ≤ length r) where
  pub number_more : (n at : ℕ) → at + n ≤ data_at → number at n (r ++ x) ≡ number at n r
  number_more n at h = number-alike data_at (r ++ x) r (λ i l. get_or-append r x 0 i (omega arith)) n at h

  pub ask-more : (members ids in_use : ℕ) (marked : Bool) → length (r ++ x) ≤ longest
      → (supported (opcode_of r) ≡ true
      → fields_of ids (target_of r) (opcode_of r) (data_of r ++ x) ≡ fields_of ids (target_of r) (opcode_of r) (data_of r))
      → ask_of members ids in_use marked (r ++ x) ≡ ask_of members ids in_use marked r
  unfolding ask_of unless◌answer◌then◌
  ask-more members ids in_use marked h f =
      let l = length-append r x in
      rw (
        inside data_at longest (length (r ++ x)) (omega arith) h,
        inside data_at longest (length r) long (omega arith),
        number_more 2 0 (omega arith),
        number_more 2 group_at (omega arith),
        number_more 8 member_at (omega arith),
        drop-append-le data_at r x long,
      )
      (framed_alike members ids in_use marked (group_of r) (opcode_of r) (target_of r) (data_of r ++ x) (data_of r) f)

-- ---- what the code reads ----

-- short data over zeros, cut to n bytes
padded-cut : (d : List ℕ) (n k : ℕ) → length d ≤ n → n ≤ k → take n (put 0 d (replicate k 0)) ≡ d ++ replicate (n - length d) 0
unfolding put
padded-cut [] n k h l = rw (put-nil, sub-zero) (take-replicate n k 0 l)
padded-cut (b ∷ d) zero k h l = absurd (omega arith)
padded-cut (b ∷ d) (suc n) zero h l = absurd (omega arith)
padded-cut (b ∷ d) (suc n) (suc k) h l =
    let e : suc n - suc (length d) ≡ n - length d = omega arith in
    rw e (ap (b ∷◌) (padded-cut d n k (omega arith) (omega arith)))

-- the padded data is long enough to be cut to the fixed fields
pub fixed-inside : (op n k : ℕ) → n ≡ fixed_size op → k ≡ longest_fixed → n ≤ k
fixed-inside op n k e l = omega (arith, fixed-longest op)

-- n bytes of the padded data where the data is short, else the data
module _ (op n : ℕ) (d padded whole : List ℕ) (e : n ≡ fixed_size op)
    (q : whole ≡ (when leb n (length d) then d else take (n - 0) (drop 0 padded))) where
  pub whole_long : length padded ≡ longest_fixed → fixed_size op ≤ length whole
  unfolding when◌then◌else◌
  whole_long l =
      let most = fixed-longest op in
      by_cases (leb n (length d))
      (λ t. rw (q, t) (omega tests))
      (λ t. rw (q, t, sub-zero, length-bytes_at 0 n padded (omega arith)) (omega arith))

  pub whole-read : (ids m : ℕ) (x : Result Ask Refusal)
      → padded ≡ (when leb n (length d) then replicate longest_fixed 0 else put 0 d (replicate longest_fixed 0))
      → x ≡ fields_of ids m op whole → supported op ≡ true → x ≡ fields_of ids m op d
  unfolding when◌then◌else◌
  whole-read ids m x w r s =
      let most = fixed-longest op in
      by_cases (leb n (length d))
      (λ t. r ∙ rw (q, t))
      (λ t. r ∙ rw (q, w, t, sub-zero, padded-cut d n longest_fixed (omega tests) (omega arith))
      (missing-zero ids m op (n - length d) d s (omega tests)))
