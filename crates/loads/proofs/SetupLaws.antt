-- The loop that collects the queue counts of a card's members, and the setup that is written of them. Assumes nothing.
use mathlib.Core.Path.{◌≡◌, refl, sym, ◌∙◌}
use mathlib.Core.Bool.{Bool, true, false, not}
use mathlib.Core.List.{List}
use Prim.Native.Nat.{ℕ, suc, ◌+◌, ◌-◌, ◌≤◌, ◌<◌}
use native.Mathlib.Nat.{sub-zero}
use native.Mathlib.Omega.{arith}
use borrow.Author.Tests.{not-true, not-false}
use lib.ListN.{length, take, drop, set, replicate, length-replicate}
use Rattle.theory.specs.Bytes.{put}
use Rattle.theory.proofs.Bytes.{length-put, put-nil, put-cons}
use Rattle.theory.proofs.Ladder.{stop, pass}
use Rattle.member.specs.Record.{member_of}
use Rattle.setups.specs.Setup.{most_members, no_counts, sixteen}
use Rattle.setups.specs.Writing.{written}
use Rattle.setups.proofs.InRange.{take-sixteen}
use Rattle.card.specs.declared.Setup.{Setup}
use Rattle.card.specs.Layout.{card_size, setup_of, HasRecord, member_bytes_in, member_in, counts_from, counts_of}
use Rattle.card.specs.Sound.{is_sound}
use Rattle.card.proofs.CountLaws.{counts-long, counts_step}
use Rattle.card.proofs.SoundLaws.{sound-of}
use Rattle.loads.specs.Loads.{setup_of_card}

-- ---- the loop ----

module _ (c : List ℕ) (n : ℕ) where
  pub counts_start : sixteen (counts_from c 1 n) ≡ put 0 (counts_from c (0 + 1) (n - 0)) (replicate 16 0)
  unfolding sixteen no_counts
  counts_start = rw sub-zero

  pub counts-has : (i : ℕ) → length c ≡ card_size n → i < n → HasRecord c (i + 1)
  counts-has i l h = record { low = omega arith; high = omega arith }

  -- i counts are stored in l
  module _ (l : List ℕ) (i : ℕ) (w : sixteen (counts_from c 1 n) ≡ put i (counts_from c (i + 1) (n - i)) l) where
    pub counts-on : (b : List ℕ) (q : ℕ) → i < n → b ≡ member_bytes_in c (i + 1) → q ≡ (member_of b).queues
        → sixteen (counts_from c 1 n) ≡ put (i + 1) (counts_from c (i + 1 + 1) (n - (i + 1))) (set l i q)
    unfolding member_in
    counts-on b q h e f =
        let k : i + 1 ≡ suc i = omega arith in
        w ∙ rw (counts_step c (i + 1) n i h, put-cons, f, e) (rw k)

    pub counts_end : n ≤ i → l ≡ sixteen (counts_from c 1 n)
    unfolding counts_from
    counts_end h = let a : n - i ≡ 0 = omega arith in sym (w ∙ rw a (put-nil i l))

-- ---- the setup ----

sixteen-long : (x : List ℕ) → length (sixteen x) ≡ most_members
unfolding sixteen no_counts
sixteen-long x = rw (length-put, length-replicate)

-- t says whether the card is sound
module _ (c : List ℕ) (t : Bool) (e : t ≡ is_sound c) where
  pub setup-refused : not t ≡ true → (b : List ℕ) → ◌≡◌ {A = ℕ × List ℕ} (0, b) (setup_of_card c b)
  unfolding setup_of_card
  setup-refused h b = stop _ _ _ _ (sym e ∙ not-true t h) refl

  module _ (h : not t ≡ false) (s : Setup) (f : s ≡ setup_of c) where
    pub members-few : s.members ≤ most_members
    members-few = rw f (sound-of c (sym e ∙ not-false t h)).numbers.few_members

    -- l: the queue counts
    module _ (l : List ℕ) (g : l ≡ sixteen (counts_from c 1 s.members)) where
      pub counts-cover : s.members ≤ length l
      counts-cover = rw (g, sixteen-long) members-few

      pub setup-told : (b d : List ℕ) (r : ℕ)
          → ◌≡◌ {A = ℕ × List ℕ} (r, d) (written b s.members (take (s.members - 0) (drop 0 l)) s.gets s.sets s.features)
          → (r, d) ≡ setup_of_card c b
      unfolding setup_of_card counts_of
      setup-told b d r w =
          let n : take (s.members - 0) l ≡ counts_from c 1 s.members =
          rw (g, sub-zero) (take-sixteen (counts_from c 1 s.members) s.members (counts-long c 1 s.members) members-few) in
          pass _ _ _ _ (sym e ∙ not-false t h) (w ∙ rw (n, f))
