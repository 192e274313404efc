-- Each return is a step of `set_up`.
use borrow.Author.Rules.{rules}
use Rattle.events.proofs.EventLaws.{refused-numbers, setup-bounds, refused-features, refused-length, setup-long, setup-done}
use Rattle.events.proofs.set_up.Goals as goal

pub returns-then-not-in_numbers : goal.returns-then-not-in_numbers
returns-then-not-in_numbers c = search (rules, refused-numbers)

pub returns-then-features-ne-FEATURES_SIZE : goal.returns-then-features-ne-FEATURES_SIZE
returns-then-features-ne-FEATURES_SIZE c = search (rules, refused-features)

pub returns-then-card-card_bytes : goal.returns-then-card-card_bytes
returns-then-card-card_bytes c = search (rules, refused-length)

pub setup_with-made-requires : goal.setup_with-made-requires
setup_with-made-requires c = search (rules, setup-bounds)

pub write_fresh-requires : goal.write_fresh-requires
write_fresh-requires c = search (rules, setup-long)

pub returns : goal.returns
returns c = search (rules, setup-done)
