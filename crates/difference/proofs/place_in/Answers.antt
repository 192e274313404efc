use Rattle.difference.proofs.Handed.{place-later, place-full, place_none}
use Rattle.difference.proofs.place_in.Goals as goal

pub returns-in-Some : goal.returns-in-Some
returns-in-Some c = search place-later

pub returns-in-Some-span_of : goal.returns-in-Some-span_of
returns-in-Some-span_of c = search place-full

pub returns : goal.returns
returns c = search place_none
