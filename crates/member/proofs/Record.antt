-- A member comes back from its record, and a sound record from its member. Assumes nothing.
use mathlib.Core.Path.{◌≡◌, refl, ap, sym, ◌∙◌}
use mathlib.Core.Bool.{Bool, true, false}
use mathlib.Core.List.{List, [], ◌∷◌, ◌++◌, map}
use Prim.Native.Nat.{ℕ, suc, ◌+◌, ◌-◌, ◌^◌, ◌≤◌, ◌<◌}
use native.Mathlib.Nat.{add-zero}
use native.Mathlib.Omega.{arith}
use mir.Val.{bool_byte}
use lib.Dec.{leb, eqb}
use lib.ListN.{length, get_or, take, drop, replicate, length-append, length-map, length-set, get_or-map}
use lib.Seq.{take_at, drop_at, drop-append-add, take_all}
use Rattle.theory.specs.Logic.{indicator}
use Rattle.theory.specs.Bytes.{bytes_at, put}
use Rattle.theory.proofs.Tests.{bool-byte}
use Rattle.theory.proofs.Bytes.{length-put, length-bytes_at, put_all, put-append, put_front, get_or-bytes_at}
use Rattle.wire.specs.Le.{le, bytes, number}
use Rattle.wire.proofs.Le.{length-bytes, le_bytes}
use Rattle.inventory.specs.Inventory.{values_size}
use Rattle.protocol.specs.Answers.{mode_of}
use Rattle.protocol.specs.declared.Mode.{Mode}
use Rattle.protocol.specs.declared.Mode.TheVariants.{Running, Stopped}
use Rattle.std.specs.Prelude.{Option, None}
use Rattle.objects.specs.Objects.{objects_size, slot_of, slot_for, found_in, object_of, object_byte}
use Rattle.objects.proofs.Objects.{objects-back}
use Rattle.member.specs.declared.Member.{Member}
use Rattle.member.specs.Record.{mode_at, mark_at, queues_at, objects_at, held_at, values_at, member_size, mode_byte, object_bytes, member_of, member_bytes}
use Rattle.member.specs.Objects.{lookup_of, with_object}
use Rattle.member.specs.Member.{features_size, fresh_of, with_mode, with_values, with_held}
use Rattle.member.proofs.Objects.{lookup-out}
use Rattle.protocol.specs.declared.ObjectKind.{ObjectKind}

-- its arrays are as long, and its number as low, as its type says
pub record Shaped (m : Member) : Type 0 where
  pub ids : length m.objects ≡ objects_size
  pub low : m.held < 256 ^ 2
  pub long : length m.values ≡ values_size

pub shaped-mode : (m : Member) → Shaped m → (mode : Mode) → Shaped (with_mode m mode)
shaped-mode m s mode = record { ids = s.ids; low = s.low; long = s.long }

pub shaped-values : (m : Member) → Shaped m → (values : List ℕ) → length values ≡ values_size → Shaped (with_values m values)
shaped-values m s values n = record { ids = s.ids; low = s.low; long = n }

pub shaped-held : (m : Member) → Shaped m → (held : ℕ) → held < 256 ^ 2 → Shaped (with_held m held)
shaped-held m s held h = record { ids = s.ids; low = h; long = s.long }

pub shaped-object : (m : Member) → Shaped m → (id : ℕ) (slot : Option ObjectKind) → Shaped (with_object m id slot)
unfolding with_object
shaped-object m s id slot = record { ids = length-set m.objects id (record { slot = slot_for slot }) ∙ s.ids; low = s.low; long = s.long }

pub fresh-shaped : (queues : ℕ) (features : List ℕ) → length features ≡ features_size → Shaped (fresh_of queues features)
unfolding fresh_of
fresh-shaped queues features n = record { ids = refl; low = omega arith; long = rw length-append (omega arith) }

-- ---- a mode and a mark, and their bytes ----

mode-back : (m : Mode) → mode_of (mode_byte m) ≡ m
mode-back Running = refl
mode-back Stopped = refl

pub mode-low : (m : Mode) → leb (mode_byte m) 1 ≡ true
mode-low Running = refl
mode-low Stopped = refl

pub mark-back : (b : Bool) → eqb (indicator b) 1 ≡ b
unfolding indicator
mark-back true = refl
mark-back false = refl

-- ---- the record of a member ----

module _ (m : Member) (s : Shaped m) where
  abbrev os : List ℕ
  os = map object_byte m.objects

  objects-long : length os ≡ objects_size
  objects-long = length-map m.objects object_byte ∙ s.ids

  pub length-member : length (member_bytes m) ≡ member_size
  unfolding member_bytes
  length-member = rw (length-append os (bytes 2 m.held ++ m.values), length-append (bytes 2 m.held) m.values, length-bytes 2 m.held) (omega (arith, objects-long, s.long))

  pub record-mode : get_or (member_bytes m) mode_at 0 ≡ mode_byte m.mode
  unfolding member_bytes
  record-mode = refl

  pub record-mark : get_or (member_bytes m) mark_at 0 ≡ indicator m.marked
  unfolding member_bytes
  record-mark = refl

  pub record-queues : get_or (member_bytes m) queues_at 0 ≡ m.queues
  unfolding member_bytes
  record-queues = refl

  pub record-objects : object_bytes (member_bytes m) ≡ os
  unfolding member_bytes
  record-objects = take_at os (bytes 2 m.held ++ m.values) objects_size objects-long

  -- what stands behind the objects
  behind : (n : ℕ) → drop (held_at + n) (member_bytes m) ≡ drop n (bytes 2 m.held ++ m.values)
  unfolding member_bytes
  behind n =
      let k : held_at + n ≡ suc (suc (suc (length os + n))) = omega (arith, objects-long) in
      rw k (drop-append-add os (bytes 2 m.held ++ m.values) n)

  pub record-held : number held_at 2 (member_bytes m) ≡ m.held
  unfolding number
  record-held =
      ap (λ l. le (take 2 l)) (rw add-zero at (behind 0))
      ∙ ap le (take_at (bytes 2 m.held) m.values 2 (length-bytes 2 m.held))
      ∙ le_bytes 2 m.held s.low

  -- the values stand last, so each part of them is a part of the record
  pub record-values : (n : ℕ) → bytes_at values_at n (member_bytes m) ≡ take n m.values
  record-values n = ap (take n) (behind 2 ∙ drop_at (bytes 2 m.held) m.values 2 (length-bytes 2 m.held))

  pub values-last : bytes_at values_at values_size (member_bytes m) ≡ m.values
  values-last = record-values values_size ∙ take_all values_size m.values (omega (arith, s.long))

  pub member_back : member_of (member_bytes m) ≡ m
  unfolding member_of
  member_back =
      rw (record-mode, mode-back m.mode, record-mark, mark-back m.marked, record-queues, record-objects, objects-back m.objects, record-held, values-last)

-- ---- the member of a record ----

module _ (r : List ℕ) (e : length r ≡ member_size) where
  pub member-ids : length (member_of r).objects ≡ objects_size
  unfolding member_of
  member-ids = length-map (object_bytes r) object_of ∙ length-bytes_at objects_at objects_size r (omega arith)

  pub member-shaped : number held_at 2 r < 256 ^ 2 → Shaped (member_of r)
  unfolding member_of
  member-shaped h = record { ids = member-ids; low = h; long = length-bytes_at values_at values_size r (omega arith) }

-- ---- load and save ----

pub front-saved : (r s : List ℕ) (b n : ℕ) (k : Bool) (q : ℕ) → b ≡ n → s ≡ put mode_at (b ∷ bool_byte k ∷ q ∷ []) r
    → s ≡ put mode_at (n ∷ indicator k ∷ q ∷ []) r
front-saved r s b n k q e f = f ∙ rw (e, bool-byte k)

-- mode, mark and queue count, objects, what is held and values, stored one after the other
module _ (m : Member) (s : Shaped m) (r r₁ r₂ r₃ : List ℕ) (e : length r ≡ member_size) (p : r₁ ≡ put mode_at (mode_byte m.mode ∷ indicator m.marked ∷ m.queues ∷ []) r)
    (q : r₂ ≡ put objects_at (map object_byte m.objects) r₁) (h : r₃ ≡ put held_at (bytes 2 m.held) r₂) where
  pub values-fit : values_at + length m.values ≤ length r₃
  values-fit = rw (h, q, p, length-put, length-put, length-put) (omega (arith, s.long))

  pub member-saved : (r₄ : List ℕ) → r₄ ≡ put values_at m.values r₃ → r₄ ≡ member_bytes m
  unfolding member_bytes
  member-saved r₄ v =
      let rest = bytes 2 m.held ++ m.values in
      let front = mode_byte m.mode ∷ indicator m.marked ∷ m.queues ∷ [] in
      let y = put mode_at front r in
      let z = put objects_at (os m s) y in
      let k : objects_at + length (os m s) ≡ held_at = omega (arith, objects-long m s) in
      let j : held_at + length (bytes 2 m.held) ≡ values_at = rw (length-bytes 2 m.held) in
      let w : put (objects_at + length (os m s)) rest z ≡ put values_at m.values (put held_at (bytes 2 m.held) z) =
      rw (k, put-append held_at (bytes 2 m.held) m.values z, j) in
      rw (v, h, q, p)
      (sym (put-append mode_at front (os m s ++ rest) r ∙ put-append objects_at (os m s) rest y ∙ w)
      ∙ put_all (member_bytes m) r (length-member m s ∙ sym e))

pub fresh-values : (f : List ℕ) → length f ≡ features_size → put 0 f (replicate values_size 0) ≡ f ++ replicate (values_size - features_size) 0
fresh-values f e = put_front f (replicate values_size 0) (omega arith) ∙ rw e

-- ---- a record read where it stands ----

module _ (r : List ℕ) (n : length r ≡ member_size) (id : ℕ) where
  pub record-lookup : (f : Option ObjectKind) → id < objects_size → f ≡ found_in (slot_of (get_or r (objects_at + id) 0)) → f ≡ lookup_of (member_of r) id
  unfolding member_of lookup_of
  record-lookup f h e = rw (get_or-map object_of (object_bytes r) id 0, get_or-bytes_at objects_at objects_size id r h) e

  pub record-lookup-out : objects_size ≤ id → None ≡ lookup_of (member_of r) id
  record-lookup-out h = lookup-out (member_of r) id objects_size (member-ids r n) h
