-- Each call for a member, at each of its returns: it is refused as an event for that member is, or done. Assumes nothing.
use mathlib.Core.Path.{◌≡◌, refl, sym, ◌∙◌}
use mathlib.Core.Logic.{◌≢◌}
use mathlib.Core.Bool.{Bool, true, false}
use mathlib.Core.List.{List, []}
use Prim.Native.Nat.{ℕ, ◌+◌, ◌≤◌}
use native.Mathlib.Omega.{arith}
use borrow.Author.Tests.{eq-eqb, ne_eqb}
use lib.ListN.{length}
use Rattle.std.specs.Prelude.{⊤, Ok, Err, is_ok, is_err}
use Rattle.theory.specs.Bytes.{put}
use Rattle.theory.proofs.Bytes.{put_all}
use Rattle.theory.proofs.Ladder.{stop, pass}
use Rattle.protocol.specs.declared.EventRefusal.{EventRefusal}
use Rattle.protocol.specs.declared.EventRefusal.TheVariants.{WrongLength}
use Rattle.protocol.specs.Answers.{EventAnswer}
use Rattle.inventory.specs.Inventory.{selector_of}
use Rattle.member.specs.declared.Member.{Member}
use Rattle.member.specs.Record.{member_size, member_of}
use Rattle.card.specs.Layout.{member_bytes_at, configuration_size, HasRecord, member_bytes_in, member_in, configuration_in, generation_in}
use Rattle.card.proofs.RecordBytesLaws.{bytes-long}
use Rattle.card.proofs.ConfigurationLaws.{configuration-long}
use Rattle.events.specs.Events.{member_answer, if_done}
use Rattle.loads.specs.declared.Summary.{Summary}
use Rattle.loads.specs.Loads.{part_of, load_in, lent, summary_of, Numbers, numbers_of, state_number, member_told, configuration_for, configuration_told}

-- an event for the member is refused, as r says, or passed
module _ (c : List ℕ) (m : ℕ) (a : EventAnswer) (e : a ≡ member_answer c m) where
  pub call-refused : (r : EventRefusal) → a ≡ Err r → (A : Type 0) (x : EventAnswer × A) (l : A) → (Err r, l) ≡ if_done (member_answer c m) x l
  unfolding if_done
  call-refused r h A x l = rw (← e, h) refl

  pub call-passed : (v : ⊤) → a ≡ Ok v → (A : Type 0) (x y : EventAnswer × A) (l : A) → x ≡ y → x ≡ if_done (member_answer c m) y l
  unfolding if_done
  call-passed v h A x y l p = rw (← e, h) p

err-not-ok : (a : EventAnswer) → is_err a ≡ true → is_ok a ≡ false
err-not-ok (Ok x) e = sym e
err-not-ok (Err x) e = refl

not-err-ok : (a : EventAnswer) → is_err a ≡ false → is_ok a ≡ true
not-err-ok (Ok x) e = refl
not-err-ok (Err x) e = sym e

-- t is whether it is refused
module _ (c : List ℕ) (m : ℕ) (a : EventAnswer) (e : a ≡ member_answer c m) (t : Bool) (d : t ≡ is_err a) where
  pub lent_none : (k s : ℕ) → t ≡ true → [] ≡ lent c m k s
  unfolding lent
  lent_none k s n = rw (← e) (stop _ _ _ _ (err-not-ok a (sym d ∙ n)) refl)

  pub lent-part : (k s z : ℕ) (b r : List ℕ) → t ≡ false → b ≡ member_bytes_in c m → z ≡ selector_of k s → r ≡ part_of (member_of b) k z
      → r ≡ lent c m k s
  unfolding lent member_in
  lent-part k s z b r n f g h = rw (← e) (pass _ _ _ _ (not-err-ok a (sym d ∙ n)) (h ∙ rw (f, g)))

-- a member's bytes, as they are lent
pub bytes-lent : (c : List ℕ) (m : ℕ) (b : List ℕ) → b ≡ member_bytes_in c m → HasRecord c m → length b ≡ member_size
bytes-lent c m b e h = rw e (bytes-long c m member_bytes_at member_size h (omega arith))

pub load-by : (c : List ℕ) (m k s z : ℕ) (b v : List ℕ) (x : EventAnswer × List ℕ) → b ≡ member_bytes_in c m → z ≡ selector_of k s
    → x ≡ load_in (member_of b) k z v → x ≡ load_in (member_in c m) k (selector_of k s) v
unfolding member_in
load-by c m k s z b v x f g h = h ∙ rw (f, g)

-- ---- a member, and its configuration ----

module _ (c : List ℕ) (m : ℕ) (a : EventAnswer) (e : a ≡ member_answer c m) (v : ⊤) (d : a ≡ Ok v) where
  pub member-told : (x : Member) (s : Summary) (n : ℕ) (l : Numbers) → x ≡ member_in c m → s ≡ summary_of x → n ≡ state_number s.state
      → (Ok tt, (n, (s.queues, (s.gets, (s.sets, s.held))))) ≡ member_told c m l
  unfolding member_told
  member-told x s n l f g h = rw h (call-passed c m a e v d Numbers (Ok tt, numbers_of s) _ l (rw (g, f)))

  pub configuration-unfit : (b : List ℕ) (g : ℕ) → length b ≢ configuration_size → (Err WrongLength, (b, g)) ≡ configuration_told c m (b, g)
  unfolding configuration_told configuration_for
  configuration-unfit b g h = call-passed c m a e v d (List ℕ × ℕ) _ _ _ (stop _ _ _ _ (ne_eqb _ _ h) refl)

  pub configuration-told : (b r z : List ℕ) (g k : ℕ) → length b ≡ configuration_size → HasRecord c m → r ≡ configuration_in c m → z ≡ put 0 r b
      → k ≡ generation_in c m → (Ok tt, (z, k)) ≡ configuration_told c m (b, g)
  unfolding configuration_told configuration_for
  configuration-told b r z g k h i f w q =
      call-passed c m a e v d (List ℕ × ℕ) _ _ _
      (pass _ _ _ _ (eq-eqb _ _ h) (rw (w, f, q, put_all (configuration_in c m) b (configuration-long c m i ∙ sym h))))

pub configuration-room : (c : List ℕ) (m : ℕ) (b r : List ℕ) → r ≡ configuration_in c m → length b ≡ configuration_size → HasRecord c m
    → 0 + length r ≤ length b
configuration-room c m b r f h i = rw f (omega (arith, configuration-long c m i))
