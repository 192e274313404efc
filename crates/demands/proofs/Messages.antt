-- What a message leaves and what it touches, and the worked examples of messages. Assumes nothing.
use mathlib.Core.Path.{◌≡◌, refl, sym, ◌∙◌}
use mathlib.Core.Logic.{◌≢◌}
use mathlib.Core.Bool.{true, false}
use mathlib.Core.List.{List}
use Prim.Native.Nat.{ℕ, ◌≤◌}
use native.Mathlib.Omega.{arith}
use lib.Dec.{eqb}
use lib.ListN.{length}
use borrow.Author.Tests.{eqb-true, eqb-false}
use Rattle.theory.proofs.Tests.{by_cases, within_low, never}
use Rattle.theory.proofs.Bytes.{put-nil, put_front}
use Rattle.theory.proofs.Lists.{length-zero}
use Rattle.wire.specs.Le.{le, number}
use Rattle.member.specs.Record.{holding_size}
use Rattle.card.specs.Layout.{holding_at, is_member, holding_in, with_configuration}
use Rattle.card.proofs.ConfigurationLaws.{setup-with-configuration, use-with-configuration, member-with-configuration, holding-with-configuration, configuration-apart}
use Rattle.message.specs.Access.{whole_of, speaks_for}
use Rattle.message.specs.Message.{answer_of, delivered, message_of}
use Rattle.message.proofs.Cases.{card-cases, no-data-keeps, answer-fits}
use Rattle.demands.specs.Calls.{step, names}
use Rattle.demands.specs.Messages.{Responded, NothingApplied, SameButConfiguration, SameConfiguration, OnlyConfiguration, message_examples, MessageExamplesHold}
use Rattle.demands.proofs.Model.{model}
use Rattle.demands.proofs.ConfigurationKept.{same_bytes, kept}

-- ---- what a message leaves ----

pub responded : Responded
unfolding message_of delivered
responded c x b = record {
  card = refl;
  reported = refl;
  within = answer-fits c x (length b);
  buffer = put_front (answer_of c x (length b)).1 b (answer-fits c x (length b));
}

no-response : (c x b : List ℕ) → (message_of c x b).0 ≡ 0 → message_of c x b ≡ (0, (c, b))
unfolding message_of delivered number le
no-response c x b e =
    let z = length-zero (answer_of c x (length b)).1 e in
    rw (no-data-keeps c x (length b) (rw z refl), z, put-nil)

no-data : (c x b : List ℕ) → number 16 4 (answer_of c x (length b)).1 ≡ 0 → (message_of c x b).1.0 ≡ c
unfolding message_of delivered
no-data c x b e = no-data-keeps c x (length b) e

pub nothing-applied : NothingApplied
nothing-applied = record { bus_outcome = no-response; length_zero = no-data }

-- ---- what it touches ----

module _ (c : List ℕ) (m : ℕ) (low : 1 ≤ m) (k : ℕ) (l : 1 ≤ k) (y : List ℕ) (g : ℕ) where
  holding-kept : holding_in (with_configuration c k y g) m ≡ holding_in c m
  unfolding holding_in
  holding-kept = by_cases (eqb m k)
      (λ t. rw (eqb-true m k t) (own t))
      (λ t. configuration-apart c k y g m holding_at holding_size (omega arith) l low (eqb-false m k t))
    where
      own : eqb m k ≡ true → holding_in (with_configuration c k y g) k ≡ holding_in c k
      own t = holding-with-configuration c k y g

  touched : SameButConfiguration c (with_configuration c k y g) m
  touched = record {
    setup = setup-with-configuration c k y g;
    in_use = use-with-configuration c k y g;
    member = member-with-configuration c k y g m l low;
    holding = holding-kept;
  }

  untouched : m ≢ k → SameConfiguration c (with_configuration c k y g) m
  untouched o = same_bytes c _ m (λ at n a b. configuration-apart c k y g m at n (omega arith) l low o)

module _ (c : List ℕ) (m : ℕ) (h : is_member c m ≡ true) (x : List ℕ) (room : ℕ) where
  own-touched : SameButConfiguration c (answer_of c x room).0 m
  own-touched =
      card-cases c x (λ d. SameButConfiguration c d m) (record { setup = refl; in_use = refl; member = refl; holding = refl }) room
      (λ k y g s i t. touched c m (within_low _ _ m h) k (within_low _ _ k i) y g)

  others-kept : speaks_for m (whole_of x) ≡ false → SameConfiguration c (answer_of c x room).0 m
  others-kept n =
      card-cases c x (λ d. SameConfiguration c d m) (kept c m) room λ k y g s i t.
      let o : m ≢ k = λ q. never (sym n ∙ rw q t) in
      untouched c m (within_low _ _ m h) k (within_low _ _ k i) y g o

pub only-configuration : OnlyConfiguration
unfolding step names
only-configuration = record { own = own-touched; others = others-kept }

-- ---- the worked examples, all at once, by computation ----

pub message-examples-hold : MessageExamplesHold
unfolding model message_examples
message-examples-hold = refl
