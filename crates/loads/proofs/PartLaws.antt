-- The value of a part among a member's bytes, and what a load of it leaves. Assumes nothing.
use mathlib.Core.Path.{◌≡◌, refl, ap, sym, ◌∙◌}
use mathlib.Core.Logic.{◌≢◌}
use mathlib.Core.List.{List, []}
use Prim.Native.Nat.{ℕ, ◌+◌, ◌-◌, ◌<◌, ◌≤◌}
use native.Mathlib.Nat.{add-sub_cancel_left}
use native.Mathlib.Omega.{arith}
use mir.Syntax.{w64}
use mir.Val.{Fits}
use borrow.Author.Tests.{ltb-true}
use lib.Dec.{eqb, ltb}
use lib.ListN.{length, take, drop}
use Rattle.std.specs.Prelude.{Ok, Err, Option, Some, None}
use Rattle.theory.specs.Logic.{unless◌answer◌then◌}
use Rattle.theory.specs.Bytes.{put}
use Rattle.theory.proofs.Bytes.{length-bytes_at, put_all}
use Rattle.theory.proofs.Ladder.{stop, pass, is_eq, is_ne}
use Rattle.protocol.specs.declared.EventRefusal.TheVariants.{NoPart, WrongLength}
use Rattle.protocol.specs.Answers.{EventAnswer}
use Rattle.inventory.specs.Inventory.{row_at, row_count, offset_of, values_size, value_of, place_of, on_place}
use Rattle.inventory.proofs.Find.{place_found}
use Rattle.inventory.proofs.Places.{at_row, at_none, row_in}
use Rattle.inventory.proofs.Rules.{table, every-row, row_within}
use Rattle.inventory.proofs.Values.{value-long}
use Rattle.member.specs.declared.Member.{Member}
use Rattle.member.specs.Record.{values_at, member_size, member_of}
use Rattle.loads.specs.Loads.{part_of, load_in}

values-long : (b : List ℕ) → length b ≡ member_size → length (member_of b).values ≡ values_size
unfolding member_of
values-long b h = length-bytes_at values_at values_size b (omega arith)

-- ---- where the value stands ----

-- q is the member's queue count, p the place of the part
module _ (b : List ℕ) (q t s : ℕ) (p : Option ℕ) (e : q ≡ (member_of b).queues) (here : p ≡ place_of q t s) where
  pub part_none : p ≡ None → [] ≡ part_of (member_of b) t s
  unfolding part_of
  part_none a = rw (← e) (at_none q t s p here (λ i. value_of (member_of b).values i) [] [] a refl)

  module _ (i o n : ℕ) (a : p ≡ Some i) (f : o ≡ offset_of i) (g : n ≡ (row_at i).size) where
    pub part-fits : Fits w64 (o + n)
    part-fits = record { fits = omega (arith, row_within i (row_in q t s p here i a)) }

    -- v: the member's values
    module _ (v : List ℕ) (w : v ≡ (member_of b).values) where
      pub part-ends : length b ≡ member_size → o + n ≤ length v
      part-ends h = rw w (omega (arith, row_within i (row_in q t s p here i a), values-long b h))

      pub part-found : take (o + n - o) (drop o v) ≡ part_of (member_of b) t s
      unfolding part_of
      part-found =
          rw (← e, add-sub_cancel_left o n)
          (at_row q t s p here (λ i. value_of (member_of b).values i) [] _ i a (rw (w, f, g)))

-- ---- a load ----

-- no part's value is empty
some_bytes : (i : ℕ) → i < row_count → 0 < (row_at i).size
unfolding table
some_bytes i h = ltb-true _ _ (every-row (λ k r. ltb 0 r.size) refl i h)

module _ (x : Member) (t s : ℕ) (buffer : List ℕ) where
  abbrev taken : ℕ → EventAnswer × List ℕ
  taken i = unless eqb (length buffer) (row_at i).size answer (Err WrongLength, buffer) then (Ok tt, value_of x.values i)

  -- the member has the part, or not
  pub load-cases : (P : List ℕ → EventAnswer × List ℕ → Type 0)
      → ((i : ℕ) → place_of x.queues t s ≡ Some i → P (value_of x.values i) (taken i)) → (place_of x.queues t s ≡ None → P [] (Err NoPart, buffer))
      → P (part_of x t s) (load_in x t s buffer)
  unfolding part_of load_in
  load-cases P f g = cases (place_of x.queues t s) refl
    where
      cases : (p : Option ℕ) → place_of x.queues t s ≡ p
          → P (on_place p (λ i. value_of x.values i) []) (on_place p taken (Err NoPart, buffer))
      cases (Some i) e = f i e
      cases None e = g e

-- own is the value that was found
module _ (b : List ℕ) (h : length b ≡ member_size) (t s : ℕ) (own buffer : List ℕ) (e : own ≡ part_of (member_of b) t s) where
  own-cases : (P : List ℕ → EventAnswer × List ℕ → Type 0)
      → ((i : ℕ) → length (value_of (member_of b).values i) ≡ (row_at i).size → 0 < (row_at i).size → P (value_of (member_of b).values i) (taken (member_of b) t s buffer i))
      → P [] (Err NoPart, buffer) → P own (load_in (member_of b) t s buffer)
  own-cases P f g =
      rw e (load-cases (member_of b) t s buffer P
      (λ i p. let l = (place_found _ _ _ i p).below in f i (value-long _ (values-long b h) i l) (some_bytes i l))
      (λ p. g))

  pub load-none : length own ≡ 0 → (Err NoPart, buffer) ≡ load_in (member_of b) t s buffer
  load-none = own-cases (λ v r. length v ≡ 0 → (Err NoPart, buffer) ≡ r) (λ i l k z. absurd (omega arith)) (λ z. refl)

  module _ (n : length own ≢ 0) where
    pub load-unfit : length buffer ≢ length own → (Err WrongLength, buffer) ≡ load_in (member_of b) t s buffer
    load-unfit = own-cases (λ v r. length v ≢ 0 → length buffer ≢ length v → (Err WrongLength, buffer) ≡ r)
        (λ i l k z u. stop _ _ _ _ (is_ne _ _ _ refl (rw l at u)) refl) (λ z u. absurd (z refl)) n

    pub loaded : (d : List ℕ) → length buffer ≡ length own → d ≡ put 0 own buffer → (Ok tt, d) ≡ load_in (member_of b) t s buffer
    loaded d = own-cases (λ v r. length v ≢ 0 → length buffer ≡ length v → d ≡ put 0 v buffer → (Ok tt, d) ≡ r)
        (λ i l k z u w. pass _ _ _ _ (is_eq _ _ _ refl (u ∙ l)) (ap (λ y. (Ok tt, y)) (w ∙ put_all _ buffer (sym u))))
        (λ z u w. absurd (z refl)) n
