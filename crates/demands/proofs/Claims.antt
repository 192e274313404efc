-- Every claim of specs/Claims.antt is proved. Assumes nothing.
use Rattle.demands.specs.Claims.{Claims}
use Rattle.demands.proofs.Sound.{stays-sound}
use Rattle.demands.proofs.Demand1.{not-written, delivers, sets-up}
use Rattle.demands.proofs.Refusals.{refusals-change-nothing, unsound-refused}
use Rattle.demands.proofs.Exports.{exports-step}
use Rattle.demands.proofs.Fresh.{setups-done, resets-done}
use Rattle.demands.proofs.Stores.{stores-done}
use Rattle.demands.proofs.Statuses.{statuses}
use Rattle.demands.proofs.Reserved.{reserved-ignored}
use Rattle.demands.proofs.Unread.{unread-ignored}
use Rattle.demands.proofs.PartHeaders.{headers-not-read}
use Rattle.demands.proofs.Examples.{examples-hold}
use Rattle.demands.proofs.Numbers.{numbers-hold}
use Rattle.demands.proofs.LengthExamples.{length-examples-hold}
use Rattle.demands.proofs.QueueSizes.{rings-only, queue-examples-hold}
use Rattle.demands.proofs.Taken.{taken}
use Rattle.demands.proofs.ReadBack.{read-back}
use Rattle.demands.proofs.AnyLength.{missing-is-zero, rest-is-ignored}
use Rattle.demands.proofs.InUse.{nothing-in-use}
use Rattle.demands.proofs.Places.{places-found}
use Rattle.demands.proofs.WrongPrograms.{wrong-programs-rejected}
use Rattle.demands.proofs.RoundTrip.{round-trip}
use Rattle.demands.proofs.Acceptance.{acceptance}
use Rattle.demands.proofs.Lists.{members-known, merged-sets, found-captured, salvaged-accepted}
use Rattle.demands.proofs.Isolation.{isolation}
use Rattle.demands.proofs.Integrity.{integrity}
use Rattle.demands.proofs.Commutation.{commutation, commands-commute}
use Rattle.demands.proofs.OnlyHolding.{only-holding}
use Rattle.demands.proofs.HoldingKept.{holding-kept}
use Rattle.demands.proofs.HoldingEnded.{holding-ended}
use Rattle.demands.proofs.RestoreExample.{restore-examples-hold}
use Rattle.demands.proofs.ConfigurationKept.{configuration-kept}
use Rattle.demands.proofs.Answered.{messages-answered}
use Rattle.demands.proofs.Messages.{responded, nothing-applied, only-configuration, message-examples-hold}
use Rattle.demands.proofs.Halves.{two-halves, halves-examples-hold}
use Rattle.demands.proofs.Between.{marked-refused, marked-idle, stores-work}
use Rattle.demands.proofs.QueuesKept.{set-up-from-packed, queues-kept, counts-in-range}
use Rattle.demands.proofs.QueueCounts.{count-examples-hold}
use Rattle.host.proofs.Examples.{requests-built, replies-read}
use Rattle.setups.proofs.Claims as packed
use Rattle.difference.proofs.Claims as difference
use Rattle.difference.proofs.Calls.{call_claims}
use Rattle.salvage.proofs.Claims as salvage
use Rattle.salvage.proofs.Exact.{exact_claims}
use Rattle.setups.proofs.Examples.{setups-written, setups-read, members-asked}
use Rattle.figures.proofs.HoweverCut.{however-cut}
use Rattle.figures.proofs.AddsUp.{adds-up}
use Rattle.figures.proofs.Exact.{exact-numbers}
use Rattle.figures.proofs.Sheets.{sheets}
use Rattle.figures.proofs.SheetTexts.{sheet_texts}
use Rattle.figures.proofs.SheetOfCaptures.{sheet-of-captures}
use Rattle.staging.proofs.SetsParts.{finish-is-parts-set}
use Rattle.staging.proofs.Cut.{holds-joined, cut-anywhere}
use Rattle.demands.proofs.Loads.{answered-exactly, refused-unwritten, load-is-lent, load_stored, load_set}
use Rattle.demands.proofs.LoadsFresh.{load-wiped, setup-again, loads-isolated}
use Rattle.demands.proofs.LoadExamples.{load-examples-hold}

pub claims : Claims
claims = record {
  stays_sound = stays-sound;
  not_written = not-written;
  unsound_refused = unsound-refused;
  delivered = delivers;
  exported = exports-step;
  refusals = refusals-change-nothing;
  sets_up = sets-up;
  setups_done = setups-done;
  resets_done = resets-done;
  stores_done = stores-done;
  statuses = statuses;
  reserved_ignored = reserved-ignored;
  unread_ignored = unread-ignored;
  headers_not_read = headers-not-read;
  examples = examples-hold;
  wrong_programs = wrong-programs-rejected;
  numbers = numbers-hold;
  round_trip = round-trip;
  acceptance = acceptance;
  isolation = isolation;
  integrity = integrity;
  taken = taken;
  read_back = read-back;
  requests_built = requests-built;
  replies_read = replies-read;
  missing_is_zero = missing-is-zero;
  rest_is_ignored = rest-is-ignored;
  nothing_in_use = nothing-in-use;
  length_examples = length-examples-hold;
  messages_answered = messages-answered;
  responded = responded;
  nothing_applied = nothing-applied;
  only_configuration = only-configuration;
  configuration_kept = configuration-kept;
  message_examples = message-examples-hold;
  places_found = places-found;
  rings_only = rings-only;
  queue_examples = queue-examples-hold;
  finish_is_parts_set = finish-is-parts-set;
  holds_joined = holds-joined;
  cut_anywhere = cut-anywhere;
  only_holding = only-holding;
  holding_kept = holding-kept;
  holding_ended = holding-ended;
  restore_examples = restore-examples-hold;
  members_known = members-known;
  merged_lists = difference.claims;
  lists_called = call_claims;
  merged_sets = merged-sets;
  found_captured = found-captured;
  salvaged_lists = salvage.claims;
  salvaged_exactly = exact_claims;
  salvaged_accepted = salvaged-accepted;
  packed_setups = packed.claims;
  setups_written = setups-written;
  setups_read = setups-read;
  members_asked = members-asked;
  set_up_from_packed = set-up-from-packed;
  queues_kept = queues-kept;
  counts_in_range = counts-in-range;
  count_examples = count-examples-hold;
  two_halves = two-halves;
  marked_refused = marked-refused;
  stores_work = stores-work;
  marked_idle = marked-idle;
  halves_examples = halves-examples-hold;
  however_cut = however-cut;
  adds_up = adds-up;
  sheets = sheets;
  exact_numbers = exact-numbers;
  sheet_texts = sheet_texts;
  sheet_of_captures = sheet-of-captures;
  commutation = commutation;
  commands_commute = commands-commute;
  answered_exactly = answered-exactly;
  refused_unwritten = refused-unwritten;
  load_is_lent = load-is-lent;
  load_stored = load_stored;
  load_set = load_set;
  load_wiped = load-wiped;
  setup_again = setup-again;
  loads_isolated = loads-isolated;
  load_examples = load-examples-hold;
}
