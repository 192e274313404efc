-- A lookup, from the place of a value to the part that is handed back, in the form in which the needs ask it. Assumes nothing.
use mathlib.Core.Path.{◌≡◌, refl, ap, sym, subst, ◌∙◌}
use mathlib.Core.Bool.{Bool, true}
use mathlib.Core.List.{List, []}
use Prim.Native.Nat.{ℕ, ◌+◌, ◌-◌, ◌≤◌}
use native.Mathlib.Nat.{add-sub_cancel_left}
use native.Mathlib.Omega.{arith}
use denote.Ref.{Bor}
use lib.ListN.{length, take, drop}
use Rattle.theory.specs.Bytes.{bytes_at}
use Rattle.inventory.specs.Inventory.{selector_of}
use Rattle.parts.specs.declared.ListForm.TheVariants.{Parts}
use Rattle.parts.specs.List.{parts_of, value_or}
use Rattle.rules.specs.Rules.{known}
use Rattle.difference.specs.declared.Span.{Span}
use Rattle.std.specs.Prelude.{Option, Some, None, Ok, Err}
use Rattle.difference.specs.declared.Refusal.{Refusal}
use Rattle.difference.specs.declared.Refusal.TheVariants.{BadSetup, BadFull, BadLater, LacksPart, OutsideInventory, ShortBuffer}
use Rattle.difference.specs.declared.Place.TheVariants.{Later, Full}
use Rattle.difference.specs.Difference.{value, in_later, in_full, Lookup, Verdict, number_of, span_of, on_span, place_in, value_at, verdict_of, code_of, on_verdict, lookup_of, lookup_told}
use Rattle.difference.specs.Handed.{PartOf, Handed, Inside}
use Rattle.difference.proofs.Places.{span_value, span-inside}

-- ---- the place in the pair ----

module _ (full later : List ℕ) (t s : ℕ) where
  -- a, b: what the walks of the later list and of the full capture answered
  module _ (a : Option Span) (ea : a ≡ span_of t s later) where
    pub place-later : (start len : ℕ) → a ≡ value start len → in_later start len ≡ place_in full later t s
    unfolding place_in
    place-later start len e = rw (sym ea ∙ e)

    module _ (na : a ≡ None) (b : Option Span) (eb : b ≡ span_of t s full) where
      pub place-full : (start len : ℕ) → b ≡ value start len → in_full start len ≡ place_in full later t s
      unfolding place_in
      place-full start len e = rw (sym ea ∙ na, sym eb ∙ e)

      pub place_none : b ≡ None → Err LacksPart ≡ place_in full later t s
      unfolding place_in
      place_none e = rw (sym ea ∙ na, sym eb ∙ e)

  -- the value there is that of the later list, or else that of the full capture
  pub place-value : value_at full later (place_in full later t s) ≡ value_or t s (parts_of Parts later) (value_or t s (parts_of Parts full) [])
  unfolding place_in
  place-value = rw (span_value t s later, span_value t s full) (cases (span_of t s later) (span_of t s full))
    where
      cases : (a b : Option Span) → value_at full later (on_span a in_later (on_span b in_full (Err LacksPart)))
          ≡ on_span a (λ start len. bytes_at start len later) (on_span b (λ start len. bytes_at start len full) [])
      cases (Some w) b = refl
      cases None (Some w) = refl
      cases None None = refl

  -- and it lies within its list
  place_inside : Inside full later (place_in full later t s)
  unfolding place_in Inside
  place_inside = cases (span_of t s later) (span_of t s full) refl refl
    where
      cases : (a b : Option Span) → span_of t s later ≡ a → span_of t s full ≡ b → Inside full later (on_span a in_later (on_span b in_full (Err LacksPart)))
      cases (Some w) b ea eb = span-inside t s later w.start w.len ea
      cases None (Some w) ea eb = span-inside t s full w.start w.len eb
      cases None None ea eb = tt

  pub placed-inside : (l : Lookup) → l ≡ place_in full later t s → Inside full later l
  placed-inside l e = rw e place_inside

-- ---- the lookup ----

-- each refusal has a number
pub number-some : (e : Refusal) → number_of e ≡ 0 → ⊥
number-some BadSetup h = omega arith
number-some BadFull h = omega arith
number-some BadLater h = omega arith
number-some LacksPart h = omega arith
number-some OutsideInventory h = omega arith
number-some ShortBuffer h = omega arith

-- a verdict has the number 0, or is a refusal
pub verdict-cases {ℓ} : {P : Type ℓ} (v : Verdict) → (code_of v ≡ 0 → P) → ((e : Refusal) → v ≡ Err e → P) → P
verdict-cases (Ok u) f g = f refl
verdict-cases (Err e) f g = g e refl

module _ {A : Type 0} (v : Verdict) (refused : Refusal → A) (a : A) where
  pub verdict-refused : (e : Refusal) → v ≡ Err e → on_verdict v refused a ≡ refused e
  unfolding on_verdict
  verdict-refused e h = rw h

  pub verdict-passed : code_of v ≡ 0 → on_verdict v refused a ≡ a
  unfolding on_verdict
  verdict-passed z = cases v refl
    where
      cases : (w : Verdict) → v ≡ w → on_verdict v refused a ≡ a
      cases (Ok u) e = rw e
      cases (Err r) e = absurd (number-some r (sym (ap code_of e) ∙ z))

module _ (q : ℕ) (features full later : List ℕ) (t selector named : ℕ) (en : named ≡ selector_of t selector) where
  pub look-refused : (asked : Bool) (v : Verdict) (e : Refusal) → asked ≡ known q t named → v ≡ verdict_of q features full later asked true
      → v ≡ Err e → Err e ≡ lookup_of q features full later t selector
  unfolding lookup_of
  look-refused asked v e ea ev h =
      rw (← en, ← ea, ← ev) (sym (verdict-refused v Err _ e h))

  pub look-found : (asked : Bool) (v : Verdict) (u : Unit {0}) (l : Lookup) → asked ≡ known q t named → v ≡ verdict_of q features full later asked true
      → v ≡ Ok u → l ≡ place_in full later t named → l ≡ lookup_of q features full later t selector
  unfolding lookup_of
  look-found asked v u l ea ev h e =
      rw (← en, ← ea, ← ev) (e ∙ sym (verdict-passed v Err _ (ap code_of h)))

pub lookup-inside : (q : ℕ) (features full later : List ℕ) (t selector : ℕ) (l : Lookup) → l ≡ lookup_of q features full later t selector
    → Inside full later l
unfolding lookup_of Inside
lookup-inside q features full later t selector l e =
    let v = verdict_of q features full later (known q t (selector_of t selector)) true in
    verdict-cases v
    (λ z. rw (e, verdict-passed v Err _ z) (place_inside full later t (selector_of t selector)))
    (λ r h. rw (e, verdict-refused v Err _ r h) tt)

-- ---- what is handed back ----

pub part_bytes : (start len : ℕ) (l x : List ℕ) → x ≡ take (start + len - start) (drop start l) → x ≡ bytes_at start len l
part_bytes start len l x e = e ∙ rw add-sub_cancel_left

module _ (full later : List ℕ) (l : Lookup) (h : Inside full later l) (start len : ℕ) where
  pub later-inside : l ≡ in_later start len → start + len ≤ length later
  unfolding Inside
  later-inside e = subst (Inside full later) e h

  pub full-inside : l ≡ in_full start len → start + len ≤ length full
  unfolding Inside
  full-inside e = subst (Inside full later) e h

module _ (full later r : Bor (List ℕ)) (l : Lookup) where
  pub later-handed : (start len : ℕ) → l ≡ in_later start len → PartOf later start len r → Handed full later l r
  unfolding Handed
  later-handed start len e p = rw e p

  pub full-handed : (start len : ℕ) → l ≡ in_full start len → PartOf full start len r → Handed full later l r
  unfolding Handed
  full-handed start len e p = rw e p

  pub none-handed : (v : Refusal) → l ≡ Err v → r.now ≡ [] → Handed full later l r
  unfolding Handed
  none-handed v e p = rw e p

  pub handed-as : (m : Lookup) → l ≡ m → Handed full later l r → Handed full later m r
  handed-as m e h = subst (λ k. Handed full later k r) e h

pub handed-value : (full later r : Bor (List ℕ)) (l : Lookup) → Handed full later l r → r.now ≡ value_at full.now later.now l
unfolding Handed
handed-value full later r (Ok (Later start len)) h = h.bytes
handed-value full later r (Ok (Full start len)) h = h.bytes
handed-value full later r (Err v) h = h

-- ---- the same as numbers ----

module _ (l m : Lookup) (e : l ≡ m) where
  pub later-told : (start len : ℕ) → l ≡ in_later start len → (0, (1, (start, len))) ≡ lookup_told m
  unfolding lookup_told
  later-told start len h = rw (sym e ∙ h)

  pub full-told : (start len : ℕ) → l ≡ in_full start len → (0, (0, (start, len))) ≡ lookup_told m
  unfolding lookup_told
  full-told start len h = rw (sym e ∙ h)

  pub refused-told : (v : Refusal) (n : ℕ) → l ≡ Err v → n ≡ number_of v → (n, (0, (0, 0))) ≡ lookup_told m
  unfolding lookup_told
  refused-told v n h k = rw (sym e ∙ h, k)
