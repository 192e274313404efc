-- The laws of the members' queue counts: what is read after something was written, and the counts of all members. Assumes
-- nothing.
use mathlib.Core.Path.{◌≡◌, refl, ap, sym, ◌∙◌}
use mathlib.Core.Logic.{◌≢◌}
use mathlib.Core.Bool.{true}
use mathlib.Core.List.{List, ◌∷◌}
use Prim.Native.Nat.{ℕ, zero, suc, ◌+◌, ◌-◌, ◌≤◌, ◌<◌}
use native.Mathlib.Nat.{add-zero}
use native.Mathlib.Omega.{arith}
use borrow.Author.Tests.{eqb-true, eqb-false, eq-eqb}
use lib.Dec.{eqb}
use lib.ListN.{length, get_or}
use lib.Seq.{ext_get_or}
use Rattle.theory.proofs.Tests.{by_cases, both, and_i, inside}
use Rattle.member.specs.declared.Member.{Member}
use Rattle.member.specs.Record.{queues_at, member_size, member_of, member_bytes}
use Rattle.member.specs.Member.{features_size, fresh_of}
use Rattle.member.proofs.Record.{fresh-shaped, member_back}
use Rattle.setups.specs.Setup.{all, is_count, in_numbers}
use Rattle.card.specs.declared.Setup.{Setup}
use Rattle.card.specs.Layout.{member_bytes_at, configuration_at, record_size, setup_of, with_in_use, is_member, HasRecord, with_record_bytes, member_in, with_member, counts_from, counts_of, fresh_card}
use Rattle.card.specs.Sound.{sound_setup}
use Rattle.card.proofs.RecordBytesLaws.{bytes-other, bytes-behind}
use Rattle.card.proofs.HeaderLaws.{bytes-with-use}
use Rattle.card.proofs.MemberLaws.{member-byte, member-other}
use Rattle.card.proofs.FreshLaws.{setup-fresh, member-bytes-fresh}
use Rattle.card.proofs.SoundLaws.{Sound, numbers-sound, sound-member-in}

-- ---- one member's ----

-- a member that is put has the count that it says
pub count-put : (c : List ℕ) (m : ℕ) (x : Member) → HasRecord c m → (member_in (with_member c m x) m).queues ≡ x.queues
unfolding member_in member_of member_bytes
count-put c m x h = member-byte c m x queues_at h (omega arith) (omega arith)

module _ (c : List ℕ) (m at n : ℕ) (x : List ℕ) (i : at + n ≤ record_size) (l : 1 ≤ m) (k : ℕ) (h : 1 ≤ k) where
  -- no other record's bytes count
  pub count-other : k ≢ m → (member_in (with_record_bytes c m at n x) k).queues ≡ (member_in c k).queues
  unfolding member_in
  count-other e = ap (λ b. (member_of b).queues) (bytes-other c m at n x i l k member_bytes_at member_size (omega arith) h e)

  -- nor do those behind a member's
  pub count-behind : configuration_at ≤ at → (member_in (with_record_bytes c m at n x) k).queues ≡ (member_in c k).queues
  unfolding member_in
  count-behind b = ap (λ r. (member_of r).queues) (bytes-behind c m at n x i l b k h)

pub count-with-use : (c : List ℕ) (mask k : ℕ) → (member_in (with_in_use c mask) k).queues ≡ (member_in c k).queues
unfolding member_in
count-with-use c mask k = ap (λ r. (member_of r).queues) (bytes-with-use c mask k member_bytes_at member_size)

-- a member that is put with the count that was there
pub count-with-member : (c : List ℕ) (m : ℕ) (x : Member) → HasRecord c m → x.queues ≡ (member_in c m).queues → (k : ℕ) → 1 ≤ k
    → (member_in (with_member c m x) k).queues ≡ (member_in c k).queues
count-with-member c m x h q k l =
    by_cases (eqb k m)
    (λ e. rw (eqb-true k m e) (count-put c m x h ∙ q))
    (λ e. ap (λ (y : Member). y.queues) (member-other c m x k h.low l (eqb-false k m e)))

-- ---- those of all members ----

pub counts-long : (c : List ℕ) (m n : ℕ) → length (counts_from c m n) ≡ n
unfolding counts_from
counts-long c m zero = refl
counts-long c m (suc n) = ap suc (counts-long c (suc m) n)

-- two cards that have the same counts there
pub counts-alike : (c d : List ℕ) (m n : ℕ) → ((k : ℕ) → m ≤ k → k < m + n → (member_in d k).queues ≡ (member_in c k).queues) → counts_from d m n ≡ counts_from c m n
unfolding counts_from
counts-alike c d m zero f = refl
counts-alike c d m (suc n) f =
    rw (f m (omega arith) (omega arith), counts-alike c d (suc m) n (λ k l h. f k (omega arith) (omega arith)))

pub counts_same : (c d : List ℕ) → setup_of d ≡ setup_of c → ((k : ℕ) → is_member c k ≡ true → (member_in d k).queues ≡ (member_in c k).queues)
    → counts_of d ≡ counts_of c
unfolding counts_of
counts_same c d e f = rw e (counts-alike c d 1 (setup_of c).members (λ k l h. f k (inside 1 _ k l (omega arith))))

-- the first of those that are left
pub counts_step : (c : List ℕ) (m n i : ℕ) → i < n → counts_from c m (n - i) ≡ (member_in c m).queues ∷ counts_from c (m + 1) (n - (i + 1))
unfolding counts_from
counts_step c m n i h =
    let e : n - i ≡ suc (n - (i + 1)) = omega arith in
    let k : m + 1 ≡ suc m = omega arith in
    rw (e, k)

pub counts-at : (c : List ℕ) (m n i : ℕ) → i < n → get_or (counts_from c m n) i 0 ≡ (member_in c (m + i)).queues
unfolding counts_from
counts-at c m zero i h = absurd (omega arith)
counts-at c m (suc n) zero h = rw add-zero
counts-at c m (suc n) (suc i) h = let k : m + suc i ≡ suc m + i = omega arith in rw k (counts-at c (suc m) n i (omega arith))

-- those of a fresh card are the ones that it was given
module _ (s : Setup) (qs : List ℕ) (g : ℕ) (e : length s.features ≡ features_size) where
  pub count-fresh : (m : ℕ) → 1 ≤ m → m ≤ length qs → (member_in (fresh_card s qs g) m).queues ≡ get_or qs (m - 1) 0
  unfolding member_in fresh_of
  count-fresh m l h =
      ap (λ (x : Member). x.queues) (ap member_of (member-bytes-fresh s qs g e m l h) ∙ member_back _ (fresh-shaped (get_or qs (m - 1) 0) s.features e))

  pub counts-fresh : in_numbers s.members qs s.gets s.sets ≡ true → counts_of (fresh_card s qs g) ≡ qs
  unfolding counts_of in_numbers
  counts-fresh t =
      let n : length qs ≡ s.members = eqb-true _ _ (both _ _ (both _ _ t).0).1 in
      let c = fresh_card s qs g in
      rw (setup-fresh s qs g e)
      (ext_get_or 0 _ qs (counts-long c 1 s.members ∙ sym n) λ i h.
      let b : i < s.members = rw counts-long at h in
      let k : 1 + i - 1 ≡ i = omega arith in
      counts-at c 1 s.members i b ∙ count-fresh (1 + i) (omega arith) (omega arith) ∙ rw k)

-- those of a sound card are good
module _ (c : List ℕ) (s : Sound c) where
  counts-good : (m n : ℕ) → 1 ≤ m → m + n ≤ 1 + (setup_of c).members → all is_count (counts_from c m n) ≡ true
  unfolding counts_from all
  counts-good m zero l h = refl
  counts-good m (suc n) l h =
      and_i _ _ (sound-member-in c s m (inside 1 _ m l (omega arith))).count (counts-good (suc m) n (omega arith) (omega arith))

  pub counts-numbers : in_numbers (setup_of c).members (counts_of c) (setup_of c).gets (setup_of c).sets ≡ true
  unfolding in_numbers counts_of sound_setup
  counts-numbers =
      and_i _ _ (and_i _ _ (numbers-sound _ s.numbers) (eq-eqb _ _ (counts-long c 1 (setup_of c).members))) (counts-good 1 _ (omega arith) (omega arith))
