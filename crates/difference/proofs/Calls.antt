-- What specs/Calls.antt claims of the two calls under a setup holds: each refusal by its number, and they are done exactly if they
-- are given what they ask. Assumes nothing.
use mathlib.Core.Path.{◌≡◌, refl, ap, sym, ◌∙◌}
use mathlib.Core.Bool.{Bool, true, false}
use mathlib.Core.List.{List, [], ◌∷◌, ◌++◌}
use Rattle.std.specs.Prelude.{IfSome}
use Rattle.std.proofs.Common.{Option, Some, None}
use Prim.Native.Nat.{ℕ, ◌<◌, ◌≤◌}
use native.Mathlib.Omega.{arith}
use borrow.Author.Tests.{leb-true, le-leb, lt-leb}
use lib.Dec.{leb}
use lib.ListN.{length, drop}
use Rattle.theory.specs.Logic.{unless◌answer◌then◌}
use Rattle.theory.specs.Bytes.{bytes_at, put}
use Rattle.theory.proofs.Tests.{by_cases, within-high}
use Rattle.theory.proofs.Bytes.{put_front}
use Rattle.inventory.specs.Inventory.{row_count, parts_size, selector_of}
use Rattle.inventory.proofs.Find.{place_found, own-place}
use Rattle.parts.specs.declared.ListForm.TheVariants.{Parts}
use Rattle.parts.specs.List.{parts_of, among, value_or}
use Rattle.rules.specs.Rules.{known, cause_of, is_accepted}
use Rattle.restore.proofs.PartValues.{value_none, value_there}
use Rattle.setups.specs.declared.MemberSetup.{MemberSetup}
use Rattle.setups.specs.Member.{member_setup}
use Rattle.setups.specs.Claims.{MemberInRange}
use Rattle.setups.proofs.Member.{member-in-range}
use Rattle.difference.specs.declared.Span.{Span}
use Rattle.std.specs.Prelude.{Option, Some, None, Ok, Err}
use Rattle.difference.specs.declared.Refusal.{Refusal}
use Rattle.difference.specs.declared.Refusal.TheVariants.{BadFull, BadLater, LacksPart, ShortBuffer}
use Rattle.difference.specs.Difference.{value, in_later, in_full, Verdict, number_of, span_of, on_span, place_in, is_full, verdict_of, code_of, lookup_of, lookup_told, made, merge_of}
use Rattle.difference.specs.Under.{lookup_under, merge_under}
use Rattle.difference.specs.Claims.{Pair}
use Rattle.difference.specs.Calls.{HasEach, Asks, Refuses, Asked, Stands, Tells, Finds, FindsUnder, Merges, MergesUnder, CallClaims}
use Rattle.difference.proofs.Full.{full-there, there-full}
use Rattle.difference.proofs.Handed.{number-some, verdict-cases, verdict-refused, verdict-passed}
use Rattle.difference.proofs.Places.{span_value, span-inside}
use Rattle.difference.proofs.Made.{made-is, pair-long}
use Rattle.difference.proofs.Verdicts.{Passes, passes, found-there, found-outside}
use Rattle.difference.proofs.Claims.{known_at, by_row, found-passes, claims}

-- ---- a known part is that of a row ----

known-asked : (q t selector : ℕ) → known q t (selector_of t selector) ≡ true → Asked q t selector
known-asked q t selector k =
    by_row q t (selector_of t selector) k
    (λ i e.
    let f = place_found q t (selector_of t selector) i e in
    record { row = i; below = f.below; there = f.there; type-is = f.type-is; selector-is = f.selector-is })

asked-known : (q t selector : ℕ) → q < 5 → Asked q t selector → known q t (selector_of t selector) ≡ true
asked-known q t selector few a =
    let place = own-place q a.row few a.below a.there in
    known_at q t (selector_of t selector) a.row (rw (a.type-is, a.selector-is) at place)

-- ---- the verdict ----

module _ (q : ℕ) (features full later : List ℕ) (asked room : Bool) where
  abbrev verdict : Verdict
  verdict = verdict_of q features full later asked room

  module _ (a : is_accepted (cause_of q features full) ≡ true) where
    module _ (b : is_accepted (cause_of q features later) ≡ true) where
      lacking : (HasEach q full → ⊥) → verdict ≡ Err LacksPart
      unfolding verdict_of unless◌answer◌then◌
      lacking n =
          let none : is_full q full ≡ false =
          by_cases (is_full q full) (λ y. absurd (n (full-there q (parts_of Parts full) y))) (λ z. z) in
          rw (a, b, none)

    bad-later : is_accepted (cause_of q features later) ≡ false → verdict ≡ Err BadLater
    unfolding verdict_of unless◌answer◌then◌
    bad-later b = rw (a, b)

  bad-full : is_accepted (cause_of q features full) ≡ false → verdict ≡ Err BadFull
  unfolding verdict_of unless◌answer◌then◌
  bad-full a = rw a

-- ---- what a lookup found ----

none-there : (t s : ℕ) (l : List ℕ) → span_of t s l ≡ None → among t s (parts_of Parts l) ≡ true → ⊥
none-there t s l e h =
    let none : (y : List ℕ) → value_or t s (parts_of Parts l) y ≡ y =
    λ y. span_value t s l y ∙ ap (λ w. on_span w (λ start len. bytes_at start len l) y) e in
    let clash : ◌≡◌ {A = List ℕ} [] (0 ∷ []) = sym (none []) ∙ value_there t s (parts_of Parts l) [] (0 ∷ []) h ∙ none (0 ∷ []) in
    let z : ◌≡◌ {A = ℕ} 0 1 = ap length clash in
    omega arith

one-there : (t s : ℕ) (l : List ℕ) (start len : ℕ) → span_of t s l ≡ value start len → among t s (parts_of Parts l) ≡ false → ⊥
one-there t s l start len e h =
    let there : (y : List ℕ) → bytes_at start len l ≡ y =
    λ y.
    sym (span_value t s l y ∙ ap (λ w. on_span w (λ start len. bytes_at start len l) y) e) ∙ value_none t s (parts_of Parts l) y h in
    let clash : ◌≡◌ {A = List ℕ} [] (0 ∷ []) = sym (there []) ∙ there (0 ∷ []) in
    let z : ◌≡◌ {A = ℕ} 0 1 = ap length clash in
    omega arith

stands : (t s : ℕ) (l : List ℕ) (start len : ℕ) → span_of t s l ≡ value start len → Stands t s l start len
stands t s l start len e =
    record {
      inside = span-inside t s l start len e;
      value = sym (span_value t s l [] ∙ ap (λ w. on_span w (λ start len. bytes_at start len l) []) e);
    }

pub place-tells : (full later : List ℕ) (t s : ℕ) → among t s (parts_of Parts full) ≡ true
    → Tells full later t s (lookup_told (place_in full later t s))
unfolding place_in lookup_told
place-tells full later t s h = cases (span_of t s later) (span_of t s full) refl refl
  where
    cases : (a b : Option Span) → span_of t s later ≡ a → span_of t s full ≡ b
        → Tells full later t s (lookup_told (on_span a in_later (on_span b in_full (Err LacksPart))))
    cases (Some w) b e f =
        record {
          done = refl;
          in_later = λ y. (refl, stands t s later w.start w.len e);
          in_full = λ n. absurd (one-there t s later w.start w.len e n);
        }
    cases None (Some w) e f =
        record {
          done = refl;
          in_later = λ y. absurd (none-there t s later e y);
          in_full = λ n. (refl, stands t s full w.start w.len f);
        }
    cases None None e f = absurd (none-there t s full f h)

-- ---- under a setup ----

module _ (s : MemberSetup) (full later : List ℕ) where
  abbrev q : ℕ
  q = s.queues

  abbrev features : List ℕ
  features = s.features

  asks-pair : q < 5 → Asks s full later → Pair q features full later
  asks-pair few a =
      record {
        few = few;
        full_accepted = a.full_accepted;
        later_accepted = a.later_accepted;
        lacks_none = there-full q (parts_of Parts full) a.lacks_none row_count 0 refl;
      }

  pub pair-asks : Pair q features full later → Asks s full later
  pair-asks p =
      record {
        full_accepted = p.full_accepted;
        later_accepted = p.later_accepted;
        lacks_none = full-there q (parts_of Parts full) p.lacks_none;
      }

  -- a call that gives `refusal` with the number of the verdict
  refuses : {A : Type 0} (result : A) (refusal : ℕ → A) (asked room : Bool)
      → ((e : Refusal) → verdict_of q features full later asked room ≡ Err e → result ≡ refusal (number_of e))
      → Refuses s full later result refusal
  refuses result refusal asked room told =
      record {
        bad_full = λ a. told BadFull (bad-full q features full later asked room a);
        bad_later = λ a b. told BadLater (bad-later q features full later asked room a b);
        lacks_part = λ a b n. told LacksPart (lacking q features full later asked room a b n);
      }

  -- ---- a lookup ----

  module _ (t selector : ℕ) where
    abbrev named : ℕ
    named = selector_of t selector

    abbrev told : ℕ × (ℕ × (ℕ × ℕ))
    told = lookup_told (lookup_under (Some s) full later t selector)

    find-known : lookup_under (Some s) full later t selector ≡ lookup_of q features full later t selector
    unfolding lookup_under
    find-known = refl

    find-refused : (r : Refusal) → verdict_of q features full later (known q t named) true ≡ Err r
        → told ≡ (number_of r, (0, (0, 0)))
    unfolding lookup_of lookup_told
    find-refused r e =
        let l : lookup_of q features full later t selector ≡ Err r = verdict-refused _ Err (place_in full later t named) r e in
        ap lookup_told (find-known ∙ l)

    pub find-passes : q < 5 → told.0 ≡ 0
        → Passes q features full later (known q t named) true
    find-passes few e = found-passes q features full later t selector few (rw find-known at e)

    find-done : q < 5 → Asks s full later → Asked q t selector → Tells full later t named told
    find-done few a k =
        let there = a.lacks_none k.row k.below k.there in
        let pair = asks-pair few a in
        rw (find-known, found-there q features full later pair t selector (asked-known q t selector few k))
        (place-tells full later t named (rw (k.type-is, k.selector-is) at there))

    find-outside : q < 5 → Asks s full later → (Asked q t selector → ⊥) → told ≡ (5, (0, (0, 0)))
    unfolding lookup_told
    find-outside few a n =
        let none : known q t named ≡ false =
        by_cases (known q t named) (λ y. absurd (n (known-asked q t selector y))) (λ z. z) in
        ap lookup_told (find-known ∙ found-outside q features full later (asks-pair few a) t selector none)

  -- ---- a merge ----

  module _ (out : List ℕ) where
    abbrev fits : Bool
    fits = leb (parts_size q) (length out)

    abbrev merged : ℕ × (ℕ × List ℕ)
    merged = merge_under (Some s) full later out

    merge-refused : (r : Refusal) → verdict_of q features full later true fits ≡ Err r → merged ≡ (number_of r, (0, out))
    unfolding merge_under merge_of unless◌answer◌then◌
    merge-refused r e = verdict-refused _ (λ w. (number_of w, (0, out))) _ r e

    pub merge-passes : q < 5 → merged.0 ≡ 0 → Passes q features full later true fits
    merge-passes few e =
        let v = verdict_of q features full later true fits in
        verdict-cases v (λ z. passes q features full later true fits few z)
        (λ r h. absurd (number-some r (sym (ap (λ (x : ℕ × (ℕ × List ℕ)). x.0) (merge-refused r h)) ∙ e)))

    pair-verdict : q < 5 → Asks s full later → (room : Bool) → fits ≡ room
        → verdict_of q features full later true fits ≡ (unless room answer Err ShortBuffer then Ok tt)
    unfolding verdict_of unless◌answer◌then◌
    pair-verdict few a room e = rw (a.full_accepted, a.later_accepted, (asks-pair few a).lacks_none, e)

    pub merge-done : q < 5 → Asks s full later → parts_size q ≤ length out
        → merged ≡ (0, (parts_size q, made q full later ++ drop (parts_size q) out))
    unfolding merge_under merge_of unless◌answer◌then◌
    merge-done few a h =
        let x = made q full later in
        let v = verdict_of q features full later true fits in
        let long = pair-long q features full later (asks-pair few a) in
        let front : put 0 x out ≡ x ++ drop (parts_size q) out = put_front x out (omega arith) ∙ ap (λ n. x ++ drop n out) long in
        let none = ap code_of (pair-verdict few a true (le-leb _ _ h)) in
        rw (← front) (verdict-passed v (λ w. (number_of w, (0, out))) (0, (parts_size q, put 0 x out)) none)

    merge-short : q < 5 → Asks s full later → length out < parts_size q → merged ≡ (6, (0, out))
    unfolding unless◌answer◌then◌
    merge-short few a h = merge-refused ShortBuffer (pair-verdict few a false (lt-leb _ _ h))

  -- ---- both ----

  module _ (r : MemberInRange s) where
    few : q < 5
    few = omega (arith, within-high 1 4 q r.count)

    pub finds-in : (t selector : ℕ) → Finds s full later t selector (lookup_told (lookup_under (Some s) full later t selector))
    finds-in t selector =
        record {
          done = λ a k. find-done t selector few a k;
          asks = λ e. pair-asks (find-passes t selector few e).pair;
          asked = λ e. known-asked q t selector (find-passes t selector few e).inside;
          refuses = refuses _ (λ n. (n, (0, (0, 0)))) (known q t (selector_of t selector)) true (find-refused t selector);
          outside = λ a n. find-outside t selector few a n;
        }

    pub merges-in : (out : List ℕ) → Merges s full later out (merge_under (Some s) full later out)
    merges-in out =
        record {
          done = λ a h. merge-done out few a h;
          asks = λ e. pair-asks (merge-passes out few e).pair;
          room = λ e. leb-true _ _ (merge-passes out few e).fits;
          refuses = refuses _ (λ n. (n, (0, out))) true (leb (parts_size q) (length out)) (merge-refused out);
          short = λ a h. merge-short out few a h;
        }

-- ---- under a packed setup ----

finds-under : (o : Option MemberSetup) (full later : List ℕ) (t selector : ℕ) → IfSome o MemberInRange
    → FindsUnder o full later t selector (lookup_told (lookup_under o full later t selector))
unfolding lookup_under lookup_told
finds-under None full later t selector r = refl
finds-under (Some s) full later t selector r = finds-in s full later r t selector

merges-under : (o : Option MemberSetup) (full later out : List ℕ) → IfSome o MemberInRange
    → MergesUnder o full later out (merge_under o full later out)
unfolding merge_under
merges-under None full later out r = refl
merges-under (Some s) full later out r = merges-in s full later r out

-- ---- all of them ----

pub call_claims : CallClaims
call_claims =
    record {
      finds = λ setup m full later t selector. finds-under (member_setup setup m) full later t selector (member-in-range setup m);
      merges = λ setup m full later out. merges-under (member_setup setup m) full later out (member-in-range setup m);
      size = λ q features full later pair. pair-long q features full later pair;
      captures_both = λ q full later values long pair.
          record {
            same = (claims.sets_both q full later values long pair).same;
            captured = made-is q full later values long pair;
            found = (claims.sets_both q full later values long pair).found;
          };
    }
