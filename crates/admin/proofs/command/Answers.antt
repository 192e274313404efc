use Rattle.std.proofs.Common.{◌∙◌, sym}
use Rattle.theory.proofs.Ladder.{said-true}
use Rattle.admin.proofs.Concluded.{no_room, unsound}
use Rattle.admin.proofs.Arms.{answered, refusal-told}
use Rattle.admin.proofs.command.Goals as goal

pub returns-then-reply-lt-HEAD_SIZE : goal.returns-then-reply-lt-HEAD_SIZE
returns-then-reply-lt-HEAD_SIZE c = no_room _ _ _ c.if-reply-lt-HEAD_SIZE.true

pub returns-then-not-is_sound : goal.returns-then-not-is_sound
returns-then-not-is_sound c = unsound _ _ _ _ c.is_sound.ensures c.if-not-is_sound.true-raw

pub asked-requires : goal.asked-requires
asked-requires c = said-true _ _ c.is_sound.ensures c.if-not-is_sound.false-raw

pub obey-requires : goal.obey-requires
obey-requires c = (said-true _ _ c.is_sound.ensures c.if-not-is_sound.false-raw, sym c.asked.ensures ∙ c.in-Ok.is, c.if-reply-lt-HEAD_SIZE.false)

pub returns-in-Ok : goal.returns-in-Ok
returns-in-Ok c = answered _ _ _ _ _ _ c.if-reply-lt-HEAD_SIZE.false c.is_sound.ensures c.if-not-is_sound.false-raw
    c.asked.ensures c.in-Ok.is _ c.obey.ensures

pub returns-in-Err : goal.returns-in-Err
returns-in-Err c = refusal-told _ _ _ _ _ _ _ c.if-reply-lt-HEAD_SIZE.false c.is_sound.ensures c.if-not-is_sound.false-raw
    c.asked.ensures _ c.in-Err.is c.write_answer.ensures
