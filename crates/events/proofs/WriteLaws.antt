-- What setup and a reset of the card write: a fresh card. Assumes nothing.
use mathlib.Core.Path.{◌≡◌, refl, ap, sym, ◌∙◌}
use mathlib.Core.List.{List, [], ◌∷◌, ◌++◌}
use Prim.Native.Nat.{ℕ, ◌+◌, ◌*◌, ◌-◌, ◌≤◌, ◌<◌}
use native.Mathlib.Nat.{sub-zero}
use native.Mathlib.Numerals.{add-one}
use native.Mathlib.Omega.{arith}
use lib.ListN.{length, get_or, drop, length-append, drop_of_length-le}
use lib.Seq.{drop-cons}
use Rattle.theory.specs.Bytes.{put}
use Rattle.theory.proofs.Bytes.{put-append, put-nil, put_all, bytes_at-after}
use Rattle.wire.specs.Le.{bytes}
use Rattle.wire.proofs.Le.{length-bytes}
use Rattle.protocol.specs.Opcodes.{fresh_mask}
use Rattle.member.specs.declared.Member.{Member}
use Rattle.member.specs.Record.{member_size, member_of}
use Rattle.member.specs.Member.{features_size, fresh_of}
use Rattle.member.proofs.Record.{fresh-shaped}
use Rattle.card.specs.declared.Setup.{Setup}
use Rattle.card.specs.Layout.{features_at, in_use_at, card_header_size, member_bytes_at, record_size, card_size, record_at, HasRecord, record_bytes, member_in, counts_from, with_record, with_fresh, fresh_record, fresh_header, fresh_records, fresh_card}
use Rattle.card.proofs.RecordLaws.{length-with-record, record-other, record-put}
use Rattle.card.proofs.FreshLaws.{fresh-record-long, length-fresh}
use Rattle.card.proofs.CountLaws.{counts-long, counts-alike, counts_step}

-- ---- a fresh card ----

-- the header: the numbers, the features, the list in use
pub header-written : (c d e f : List ℕ) (s : Setup) → length s.features ≡ features_size → d ≡ put 0 (s.members ∷ s.gets ∷ s.sets ∷ []) c
    → e ≡ put features_at s.features d → f ≡ put in_use_at (bytes 8 fresh_mask) e → f ≡ put 0 (fresh_header s) c
unfolding fresh_header
header-written c d e f s n p q r =
    let h = s.members ∷ s.gets ∷ s.sets ∷ [] in
    let k : 0 + length (h ++ s.features) ≡ in_use_at = omega arith in
    rw (r, q, p) (sym (put-append 0 (h ++ s.features) (bytes 8 fresh_mask) c ∙ rw (k, put-append 0 h s.features c)))

header-long : (s : Setup) → length s.features ≡ features_size → length (fresh_header s) ≡ card_header_size
unfolding fresh_header
header-long s e = rw (length-append, length-bytes 8 fresh_mask) (omega arith)

-- ---- fresh records, one after the other ----

-- m records with features f and generation g are written, and those of the counts that are left give the whole
pub record Filled (f : List ℕ) (g : ℕ) (qs c₀ left c : List ℕ) (m : ℕ) : Type 0 where
  pub long : length c ≡ length c₀
  pub whole : put card_header_size (fresh_records f g qs) c₀ ≡ put (card_header_size + record_size * m) (fresh_records f g left) c

module _ (f : List ℕ) (g : ℕ) (qs c₀ : List ℕ) where
  filled-start : Filled f g qs c₀ qs c₀ 0
  filled-start = record { long = refl; whole = refl }

  filled_on : (q : ℕ) (left c d : List ℕ) (m : ℕ) → Filled f g qs c₀ (q ∷ left) c m → length f ≡ features_size
      → d ≡ with_record c (m + 1) (fresh_of q f) g → Filled f g qs c₀ left d (m + 1)
  unfolding fresh_records
  filled_on q left c d m w e p =
      let r = fresh_record q f g in
      let at : card_header_size + record_size * m ≡ record_at (m + 1) = omega arith in
      let on : record_at (m + 1) + length r ≡ card_header_size + record_size * (m + 1) = omega (arith, fresh-record-long f g e q) in
      record {
        long = rw (p, length-with-record) w.long;
        whole = w.whole ∙ rw (at, put-append (record_at (m + 1)) r (fresh_records f g left) c, on, record-put c (m + 1) _ g (fresh-shaped q f e), p);
      }

  filled-end : (c : List ℕ) (m : ℕ) → Filled f g qs c₀ [] c m → c ≡ put card_header_size (fresh_records f g qs) c₀
  unfolding fresh_records
  filled-end c m w = sym (w.whole ∙ put-nil _ c)

-- setup: the counts that are left are those that are given from the m-th on
pub record Writing (f qs c₀ c : List ℕ) (m : ℕ) : Type 0 where
  pub count : m ≤ length qs
  pub filled : Filled f 0 qs c₀ (drop m qs) c m

pub writing_start : (f qs c : List ℕ) → Writing f qs c c 0
writing_start f qs c = record { count = omega arith; filled = filled-start f 0 qs c }

module _ (f qs c₀ c : List ℕ) (m : ℕ) (w : Writing f qs c₀ c m) where
  pub writing-has : length c₀ ≡ card_size (length qs) → m < length qs → HasRecord c (m + 1)
  writing-has e h = let l = w.filled.long in record { low = omega arith; high = omega arith }

  pub writing-on : (x : Member) (d : List ℕ) → length f ≡ features_size → m < length qs → x ≡ fresh_of (get_or qs m 0) f → d ≡ with_record c (m + 1) x 0
      → Writing f qs c₀ d (m + 1)
  writing-on x d e h q p =
      record { count = omega arith; filled = filled_on f 0 qs c₀ (get_or qs m 0) (drop (m + 1) qs) c d m (rw (add-one m, ← drop-cons qs m 0 h) w.filled) e (p ∙ rw q) }

  pub writing-end : length qs ≤ m → c ≡ put card_header_size (fresh_records f 0 qs) c₀
  writing-end h = filled-end f 0 qs c₀ c m (rw drop_of_length-le at w.filled)

-- card reset: they are those that the records behind have
pub record Resetting (f : List ℕ) (g : ℕ) (c₀ c : List ℕ) (n m : ℕ) : Type 0 where
  pub count : m ≤ n
  pub filled : Filled f g (counts_from c₀ 1 n) c₀ (counts_from c (m + 1) (n - m)) c m

pub resetting-start : (f : List ℕ) (g : ℕ) (c : List ℕ) (n : ℕ) → Resetting f g c c n 0
resetting-start f g c n = record { count = omega arith; filled = rw sub-zero (filled-start f g (counts_from c 1 n) c) }

module _ (f : List ℕ) (g : ℕ) (c₀ c : List ℕ) (n m : ℕ) (w : Resetting f g c₀ c n m) where
  pub resetting-has : length c₀ ≡ card_size n → m < n → HasRecord c (m + 1)
  resetting-has e h = let l = w.filled.long in record { low = omega arith; high = omega arith }

  pub resetting-on : (d : List ℕ) → length f ≡ features_size → m < n → d ≡ with_fresh c (m + 1) f g → Resetting f g c₀ d n (m + 1)
  resetting-on d e h p =
      let left : counts_from d (m + 1 + 1) (n - (m + 1)) ≡ counts_from c (m + 1 + 1) (n - (m + 1)) =
      rw p (counts-alike c _ (m + 1 + 1) (n - (m + 1)) λ j l i.
      ap (λ (y : Member). y.queues) (record-other c (m + 1) _ g j (omega arith) (omega arith) (λ q. omega arith))) in
      record {
        count = omega arith;
        filled =
            rw left (filled_on f g (counts_from c₀ 1 n) c₀ (member_in c (m + 1)).queues (counts_from c (m + 1 + 1) (n - (m + 1))) c d m
            (rw (← counts_step c (m + 1) n m h) w.filled) e p);
      }

  pub resetting-end : n ≤ m → c ≡ put card_header_size (fresh_records f g (counts_from c₀ 1 n)) c₀
  unfolding counts_from
  resetting-end h = let z : n - m ≡ 0 = omega arith in filled-end f g (counts_from c₀ 1 n) c₀ c m (rw z at w.filled)

-- ---- the header and the records are the whole card ----

pub fresh-written : (s : Setup) (qs c₀ c₁ c₂ : List ℕ) (g : ℕ) → length s.features ≡ features_size → length c₀ ≡ card_size (length qs)
    → c₁ ≡ put 0 (fresh_header s) c₀ → c₂ ≡ put card_header_size (fresh_records s.features g qs) c₁ → c₂ ≡ fresh_card s qs g
unfolding fresh_card
fresh-written s qs c₀ c₁ c₂ g e l p q =
    let h : 0 + length (fresh_header s) ≡ card_header_size = omega (arith, header-long s e) in
    q ∙ rw (p, ← h) (sym (put-append 0 (fresh_header s) _ c₀) ∙ put_all (fresh_card s qs g) c₀ (length-fresh s qs g e ∙ sym l))

-- a header is put before all members
header-apart : (h c : List ℕ) (k : ℕ) → length h ≡ card_header_size → member_in (put 0 h c) k ≡ member_in c k
unfolding member_in record_bytes
header-apart h c k e = ap member_of (bytes_at-after (record_at k + member_bytes_at) member_size 0 h c (omega arith))

-- so the counts are read as they were
pub fresh-rewritten : (s : Setup) (c c₁ d : List ℕ) (n g : ℕ) → length s.features ≡ features_size → length c ≡ card_size s.members → n ≡ s.members
    → c₁ ≡ put 0 (fresh_header s) c → d ≡ put card_header_size (fresh_records s.features g (counts_from c₁ 1 n)) c₁
    → d ≡ fresh_card s (counts_from c 1 s.members) g
fresh-rewritten s c c₁ d n g e l k p q =
    let same : counts_from c₁ 1 n ≡ counts_from c 1 s.members =
    rw (p, k) (counts-alike c _ 1 _ λ j a b. ap (λ (y : Member). y.queues) (header-apart _ c j (header-long s e))) in
    fresh-written s _ c c₁ d g e (rw counts-long l) p (q ∙ rw same)
