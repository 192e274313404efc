-- The laws of a member's mark: what is read after something was written, and as code reads it. Assumes nothing.
use mathlib.Core.Path.{◌≡◌, ap, sym, ◌∙◌}
use mathlib.Core.Logic.{◌≢◌}
use mathlib.Core.Bool.{Bool, true, false, not}
use mathlib.Core.List.{List}
use Prim.Native.Nat.{ℕ, ◌+◌, ◌≤◌}
use native.Mathlib.Omega.{arith}
use borrow.Author.Tests.{not-true, not-false, eqb-true, eqb-false}
use lib.Dec.{eqb}
use lib.ListN.{length}
use Rattle.theory.specs.Logic.{◌and◌}
use Rattle.theory.proofs.Tests.{by_cases, within_low, within-high}
use Rattle.member.specs.declared.Member.{Member}
use Rattle.member.specs.Record.{mark_at, member_size, member_of, member_bytes}
use Rattle.member.proofs.Record.{Shaped, mark-back}
use Rattle.card.specs.Layout.{member_bytes_at, configuration_at, record_size, card_size, setup_of, with_in_use, is_member, HasRecord, with_record_bytes, member_bytes_in, member_in, with_member, is_marked, with_record}
use Rattle.card.proofs.RecordBytesLaws.{has-record, setup-with-bytes, bytes-other, bytes-behind}
use Rattle.card.proofs.HeaderLaws.{setup-with-use, bytes-with-use}
use Rattle.card.proofs.MemberLaws.{member-byte, setup-with-member, member-other}
use Rattle.card.proofs.RecordLaws.{setup-with-record, member-with-record}

-- of a member of the card
pub marked-is : (c : List ℕ) (m : ℕ) → is_member c m ≡ true → is_marked c m ≡ (member_in c m).marked
unfolding is_marked ◌and◌
marked-is c m h = rw h

-- a card with the same setup, and the same mark there
pub mark-alike : (c d : List ℕ) (m : ℕ) → setup_of d ≡ setup_of c → (is_member c m ≡ true → (member_in d m).marked ≡ (member_in c m).marked)
    → is_marked d m ≡ is_marked c m
unfolding is_marked ◌and◌
mark-alike c d m e f = rw e (by_cases (is_member c m) (λ t. rw (t, f t)) (λ t. rw t))

-- a member that is put is marked as it says
pub mark-put : (c : List ℕ) (m : ℕ) (x : Member) → HasRecord c m → (member_in (with_member c m x) m).marked ≡ x.marked
unfolding member_in member_of member_bytes
mark-put c m x h = ap (λ v. eqb v 1) (member-byte c m x mark_at h (omega arith) (omega arith)) ∙ mark-back x.marked

-- no other record's bytes count
pub mark-other : (c : List ℕ) (m at n : ℕ) (x : List ℕ) → at + n ≤ record_size → 1 ≤ m → (k : ℕ) → 1 ≤ k → k ≢ m
    → is_marked (with_record_bytes c m at n x) k ≡ is_marked c k
unfolding member_in
mark-other c m at n x i l k h e =
    mark-alike c _ k (setup-with-bytes c m at n x)
    (λ t. ap (λ b. (member_of b).marked) (bytes-other c m at n x i l k member_bytes_at member_size (omega arith) h e))

-- nor do those behind a member's, nor the list in use
pub mark-behind : (c : List ℕ) (m at n : ℕ) (x : List ℕ) → at + n ≤ record_size → 1 ≤ m → configuration_at ≤ at → (k : ℕ)
    → is_marked (with_record_bytes c m at n x) k ≡ is_marked c k
unfolding member_in
mark-behind c m at n x i l b k =
    mark-alike c _ k (setup-with-bytes c m at n x) (λ t. ap (λ r. (member_of r).marked) (bytes-behind c m at n x i l b k (within_low _ _ k t)))

pub mark-with-use : (c : List ℕ) (mask k : ℕ) → is_marked (with_in_use c mask) k ≡ is_marked c k
unfolding member_in
mark-with-use c mask k =
    mark-alike c _ k (setup-with-use c mask) (λ t. ap (λ r. (member_of r).marked) (bytes-with-use c mask k member_bytes_at member_size))

-- a member that is put with the mark that was there
pub mark-with-member : (c : List ℕ) (m : ℕ) (x : Member) → HasRecord c m → x.marked ≡ (member_in c m).marked → (k : ℕ)
    → is_marked (with_member c m x) k ≡ is_marked c k
mark-with-member c m x h q k =
    mark-alike c _ k (setup-with-member c m x) λ t.
    by_cases (eqb k m)
    (λ e. rw (eqb-true k m e) (mark-put c m x h ∙ q))
    (λ e. ap (λ (y : Member). y.marked) (member-other c m x k h.low (within_low _ _ k t) (eqb-false k m e)))

-- where a whole record is put its member says it
pub mark-with-record : (c : List ℕ) (m : ℕ) (x : Member) (g : ℕ) → Shaped x → length c ≡ card_size (setup_of c).members
    → x.marked ≡ is_marked c m → is_marked (with_record c m x g) m ≡ is_marked c m
mark-with-record c m x g s e q =
    mark-alike c _ m (setup-with-record c m x g)
    (λ t. ap (λ (y : Member). y.marked) (member-with-record c m x g s (has-record c m e (within_low _ _ m t) (within-high _ _ m t)))
    ∙ q ∙ marked-is c m t)

-- ---- as code reads it; b says whether m is a member ----

module _ (c : List ℕ) (m : ℕ) (b : Bool) (e : b ≡ is_member c m) where
  pub no-mark : not b ≡ true → false ≡ is_marked c m
  unfolding is_marked ◌and◌
  no-mark n = rw (sym e ∙ not-true b n)

  module _ (n : not b ≡ false) where
    there : is_member c m ≡ true
    there = sym e ∙ not-false b n

    pub mark-record : length c ≡ card_size (setup_of c).members → HasRecord c m
    mark-record l = has-record c m l (within_low _ _ m there) (within-high _ _ m there)

    pub mark-read : (t : Bool) (r : List ℕ) → r ≡ member_bytes_in c m → t ≡ (member_of r).marked → t ≡ is_marked c m
    unfolding member_in
    mark-read t r p q = q ∙ rw p (sym (marked-is c m there))
