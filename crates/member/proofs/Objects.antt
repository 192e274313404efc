-- Each return of the methods of a member, in the shape in which it is asked, and what a caller made
-- of a lookup. Assumes nothing.
use mathlib.Core.Path.{◌≡◌, ap, sym, ◌∙◌}
use native.Mathlib.Omega.{arith}
use mathlib.Core.List.{List}
use Prim.Native.Nat.{ℕ, ◌≤◌}
use lib.ListN.{length, get_or, set, get_or-eq_default}
use lib.Seq.{set_out}
use Rattle.protocol.specs.declared.ObjectKind.{ObjectKind}
use Rattle.std.specs.Prelude.{Option, Some, None}
use Rattle.objects.specs.declared.ObjectRecord.{ObjectRecord}
use Rattle.objects.specs.Objects.{free, slot_for, found_in, on_found}
use Rattle.member.specs.declared.Member.{Member}
use Rattle.member.specs.Objects.{lookup_of, with_object}
use Rattle.member.specs.Member.{with_values}

pub values-in : (m : Member) (v w : List ℕ) → v ≡ w → with_values m v ≡ with_values m w
values-in m v w e = rw e

module _ (m : Member) (id : ℕ) where
  pub lookup-in : (f : Option ObjectKind) → f ≡ found_in (get_or m.objects id free).slot → f ≡ lookup_of m id
  unfolding lookup_of
  lookup-in f e = e

  pub object-in : (s : Option ObjectKind) (l : List ObjectRecord) → l ≡ set m.objects id (record { slot = slot_for s })
      → record { mode = m.mode; marked = m.marked; queues = m.queues; objects = l; held = m.held; values = m.values } ≡ with_object m id s
  unfolding with_object
  object-in s l e = rw e

  -- an id that none of the n records has
  module _ (n : ℕ) (l : length m.objects ≡ n) (h : n ≤ id) where
    out : length m.objects ≤ id
    out = omega arith

    pub lookup-out : None ≡ lookup_of m id
    unfolding lookup_of
    lookup-out = ap (λ (o : ObjectRecord). found_in o.slot) (sym (get_or-eq_default m.objects free out))

    pub object-out : (s : Option ObjectKind) → m ≡ with_object m id s
    unfolding with_object
    object-out s = rw (set_out m.objects id (record { slot = slot_for s }) out)

-- f is what the lookup answered
module _ {A : Type 0} (m : Member) (id : ℕ) (g : ObjectKind → A) (z o : A) (f : Option ObjectKind) (e : f ≡ lookup_of m id) where
  pub on-live : (k : ObjectKind) → f ≡ Some k → o ≡ g k → o ≡ on_found (lookup_of m id) g z
  on-live k n h = rw (sym e ∙ n) h

  pub on-nothing : f ≡ None → o ≡ z → o ≡ on_found (lookup_of m id) g z
  on-nothing n h = rw (sym e ∙ n) h
