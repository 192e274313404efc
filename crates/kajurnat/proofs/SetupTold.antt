-- What the readers of packed setups leave, for each of their ends. Assumes nothing.
use mathlib.Core.Path.{◌≡◌, sym, ◌∙◌}
use mathlib.Core.Logic.{◌≢◌}
use mathlib.Core.List.{List}
use Rattle.std.proofs.Common.{Result, Ok, ◌⊎◌, inl, inr, eqb}
use Prim.Native.Nat.{ℕ}
use borrow.Author.Tests.{eq-eqb, ne_eqb}
use lib.ListN.{length}
use Rattle.theory.specs.Logic.{unless◌answer◌then◌, ◌and◌}
use Rattle.theory.specs.Bytes.{put}
use Rattle.theory.proofs.Tests.{and-false}
use Rattle.theory.proofs.Bytes.{put_all}
use Rattle.setups.specs.declared.Setup.{Setup}
use Rattle.setups.specs.declared.ReadRefusal.{ReadRefusal}
use Rattle.setups.specs.Setup.{most_members, features_size}
use Rattle.kajurnat.specs.SetupTold.{SetupTold, setup_told}

module _ (x : Setup) (m : ℕ) (q : List ℕ) (g s : ℕ) (f : List ℕ) where
  -- buffers that are not 16 bytes; n is the number of that refusal
  pub unfit : (n : ℕ) → n ≡ 2 → (length q ≢ most_members) ⊎ (length f ≢ features_size)
      → ◌≡◌ {A = SetupTold} (n, (m, (q, (g, (s, f))))) (setup_told (Ok x) m q g s f)
  unfolding setup_told unless◌answer◌then◌ ◌and◌
  unfit n e (inl h) = rw (e, ne_eqb (length q) most_members h)
  unfit n e (inr h) = rw (e, ne_eqb (length f) features_size h, and-false (eqb (length q) most_members))

  -- the counts and the features were copied
  pub setup-told : (c d : List ℕ) → length q ≡ most_members → length f ≡ features_size → length x.queues ≡ most_members
      → length x.features ≡ features_size → c ≡ put 0 x.queues q → d ≡ put 0 x.features f
      → ◌≡◌ {A = SetupTold} (0, (x.members, (c, (x.gets, (x.sets, d))))) (setup_told (Ok x) m q g s f)
  unfolding setup_told unless◌answer◌then◌ ◌and◌
  setup-told c d k l i j a b =
      rw (
        eq-eqb (length q) most_members k,
        eq-eqb (length f) features_size l,
        a,
        b,
        put_all x.queues q (i ∙ sym k),
        put_all x.features f (j ∙ sym l),
      )

-- y is what the definition reads
pub as_read : (o y : Result Setup ReadRefusal) (m : ℕ) (q : List ℕ) (g s : ℕ) (f : List ℕ) (x : SetupTold)
    → o ≡ y → x ≡ setup_told o m q g s f → x ≡ setup_told y m q g s f
as_read o y m q g s f x e h = h ∙ rw e
