-- What a message for another member does to the masked card of Mask.antt. Assumes nothing.
use mathlib.Core.Path.{◌≡◌, refl, ap, ◌∙◌}
use mathlib.Core.Logic.{◌≢◌}
use mathlib.Core.Bool.{true, false}
use mathlib.Core.List.{List}
use Prim.Native.Nat.{ℕ, ◌+◌, ◌≤◌}
use native.Mathlib.Omega.{arith}
use lib.Dec.{leb}
use lib.ListN.{length}
use borrow.Author.Tests.{eqb-false}
use Rattle.std.specs.Prelude.{Option, Some, None}
use Rattle.theory.specs.Logic.{unless◌answer◌then◌}
use Rattle.theory.proofs.Tests.{by_cases}
use Rattle.wire.specs.Le.{le}
use Rattle.card.specs.Layout.{configuration_at, configuration_size, generation_at, generation_size, card_size, setup_of, with_record_bytes, configuration_in, generation_in, with_configuration}
use Rattle.card.specs.Sound.{is_sound}
use Rattle.card.proofs.RecordBytesLaws.{length-with-bytes, setup-with-bytes}
use Rattle.card.proofs.RecordLaws.{setup-with-record, record_apart}
use Rattle.message.specs.declared.Access.{Access}
use Rattle.message.specs.declared.Access.TheVariants.{Read, Write}
use Rattle.message.specs.Format.{member_for}
use Rattle.message.specs.Access.{whole_of, speaks_for}
use Rattle.message.specs.Message.{access_in, is_applied, applied_to, act_of, fitting, answer_of}
use Rattle.message.proofs.Asked.{Facts, access-cases}
use Rattle.message.proofs.Cases.{answer-sound}
use Rattle.demands.proofs.Mask.{mask, mask-mask, mask-swap, is_whole, masked-sound, masked-mark}

-- the same response, and cards with the same mask
pub record Alike (m : ℕ) (x y : List ℕ × List ℕ) : Type 0 where
  pub says : x.1 ≡ y.1
  pub cards : mask m x.0 ≡ mask m y.0

module _ (m : ℕ) (low : 1 ≤ m) (c : List ℕ) (whole : length c ≡ card_size (setup_of c).members) where
  -- the configuration of another member k: what it is in the masked card, and that it is changed there alike
  module _ (k : ℕ) (l : 1 ≤ k) (o : k ≢ m) where
    configuration-unmasked : configuration_in (mask m c) k ≡ configuration_in c k
    unfolding configuration_in
    configuration-unmasked = record_apart c m _ 0 k configuration_at configuration_size (omega arith) low l o

    generation-unmasked : generation_in (mask m c) k ≡ generation_in c k
    unfolding generation_in
    generation-unmasked = ap le (record_apart c m _ 0 k generation_at generation_size (omega arith) low l o)

    mask-configuration : (y : List ℕ) (g : ℕ) → mask m (with_configuration (mask m c) k y g) ≡ mask m (with_configuration c k y g)
    unfolding with_configuration
    mask-configuration y g =
        ap (mask m) (mask-swap m low c k configuration_at (configuration_size + generation_size) _ (omega arith) l o)
        ∙ mask-mask m low (with_record_bytes c k configuration_at _ _) (rw (length-with-bytes, setup-with-bytes) whole)

  act-alike : (x : List ℕ) (a : Option Access) → Facts (setup_of c).members x a → speaks_for m a ≡ false → Alike m (act_of (mask m c) x a) (act_of c x a)
  unfolding act_of applied_to speaks_for unless◌answer◌then◌
  act-alike x None f n = record { says = refl; cards = mask-mask m low c whole }
  act-alike x (Some (Read k offset j)) f n =
      let o = eqb-false k m n in
      rw (configuration-unmasked k f.low o, generation-unmasked k f.low o) (record { says = refl; cards = mask-mask m low c whole })
  act-alike x (Some (Write k sent offset j)) f n =
      let o = eqb-false k m n in
      rw (configuration-unmasked k f.0.low o, generation-unmasked k f.0.low o)
      (by_cases (is_applied (generation_in c k) sent offset j)
      (λ t. rw t (record { says = refl; cards = mask-configuration k f.0.low o _ _ }))
      (λ t. rw t (record { says = refl; cards = mask-mask m low c whole })))

  fitting-alike : (room : ℕ) (y z : List ℕ × List ℕ) → Alike m y z → Alike m (fitting (mask m c) room y) (fitting c room z)
  unfolding fitting unless◌answer◌then◌
  fitting-alike room y z h =
      by_cases (leb (length z.1) room)
      (λ t. let u : leb (length y.1) room ≡ true = rw h.says t in rw (u, t) h)
      (λ t. let u : leb (length y.1) room ≡ false = rw h.says t in rw (u, t) (record { says = refl; cards = mask-mask m low c whole }))

-- a message asks the same of the masked card
masked-access : (m : ℕ) (low : 1 ≤ m) (c : List ℕ) → is_sound c ≡ true → (x : List ℕ) → access_in (mask m c) x ≡ access_in c x
unfolding access_in
masked-access m low c e x = rw (setup-with-record, masked-mark m low c e (member_for x))

pub message-alike : (m : ℕ) (low : 1 ≤ m) (c : List ℕ) → is_sound c ≡ true → (x : List ℕ) → speaks_for m (whole_of x) ≡ false → (room : ℕ)
    → Alike m (answer_of (mask m c) x room) (answer_of c x room)
unfolding speaks_for
message-alike m low c e x n room =
    let whole = is_whole m low c e in
    rw (answer-sound (mask m c) x room (masked-sound m low c e), answer-sound c x room e, masked-access m low c e x)
    (fitting-alike m low c whole room _ _
    (access-cases c x (λ a. Alike m (act_of (mask m c) x a) (act_of c x a))
    (act-alike m low c whole x None tt refl) (λ f. act-alike m low c whole x (whole_of x) f n)))
