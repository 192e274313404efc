-- The claims of specs/Exact.antt hold. Assumes nothing.
use mathlib.Core.Path.{◌≡◌, refl, sym, ◌∙◌}
use mathlib.Core.Bool.{Bool, true, false}
use mathlib.Core.List.{List}
use Prim.Native.Nat.{ℕ}
use native.Mathlib.Omega.{arith}
use Rattle.theory.specs.Logic.{indicator}
use Rattle.theory.proofs.Tests.{by_cases}
use Rattle.inventory.specs.Inventory.{row_at}
use Rattle.parts.specs.declared.ListForm.TheVariants.{Parts}
use Rattle.parts.specs.List.{parts_of}
use Rattle.salvage.specs.Salvage.{fresh_value, row_value, is_kept_row, kept_item, kept_report}
use Rattle.salvage.specs.Claims.{InSetup, HasRow}
use Rattle.salvage.specs.Exact.{FirstOrFresh, WritesCapture, CountsExactly, ExactClaims}
use Rattle.salvage.proofs.Whole.{end_of, end-value, list-is}
use Rattle.salvage.proofs.Values.{few, kept-none}
use Rattle.salvage.proofs.Copies.{kept-first, first-kept, fresh-is}
use Rattle.salvage.proofs.Totals.{report-total}
use Rattle.salvage.proofs.StopsOnly.{stops-only-there}
use Rattle.salvage.proofs.JustTheInventory.{comes-back-with-zeros, undamaged-kept}
use Rattle.salvage.proofs.DoneExactly.{kept-long, dropped-long, done-exactly}

-- ---- a row ----

one-true : (b : Bool) → indicator b ≡ 1 → b ≡ true
unfolding indicator
one-true true e = refl
one-true false e = absurd (omega arith)

module _ (q : ℕ) (features l : List ℕ) (g : InSetup q features) (i : ℕ) (r : HasRow q i) where
  abbrev t : ℕ
  t = (row_at i).part_type

  abbrev s : ℕ
  s = (row_at i).selector

  -- x is what is written for it
  row_kept : (x : List ℕ) → x ≡ row_value q features l i
      → FirstOrFresh features (parts_of Parts l) i (indicator (is_kept_row q features l i)) x
  unfolding indicator
  row_kept x e =
      let ps = parts_of Parts l in
      let h = few q features l g in
      record {
        kept = λ y. rw e (kept-first q features h i r (fresh_value q features i) ps (one-true (is_kept_row q features l i) y));
        first = λ y f. rw (first-kept q features h i r y ps f);
        filled = λ n.
            by_cases (is_kept_row q features l i)
            (λ y. absurd (n (rw y)))
            (λ z.
            let x-fresh = e ∙ kept-none q features t s (fresh_value q features i) ps z ∙ fresh-is features g.long i r.below q in
            (rw z, x-fresh));
      }

writes-capture : WritesCapture
unfolding kept_report kept_item
writes-capture q features l g =
    record {
      values = (end_of q features l g.long).values;
      numbers = λ i. indicator (is_kept_row q features l i);
      list = sym (list-is q features l g.long);
      report = refl;
      each = λ i r. row_kept q features l g i r _ (end-value q features l g.long i r.below);
    }

counts-exactly : CountsExactly
counts-exactly q features l g =
    record {
      rows = kept-long q features l (few q features l g);
      causes = dropped-long q features l;
      parts = report-total q features l g.long;
    }

pub exact_claims : ExactClaims
exact_claims =
    record {
      sizes = (refl, refl);
      done-exactly = done-exactly;
      writes-capture = writes-capture;
      counts-exactly = counts-exactly;
      stops-only-there = stops-only-there;
      comes_back = comes-back-with-zeros;
      undamaged-kept = undamaged-kept;
    }
