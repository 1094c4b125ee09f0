-- `examples::turn` meets its contract. Assumes nothing.
use Rattle.examples.proofs.Kept.{fronted-rest, kept_on}
use Rattle.examples.proofs.turn.Goals as goal

pub returns-in-Stored : goal.returns-in-Stored
returns-in-Stored c = fronted-rest _ _ c.in-Stored.is c.front-fronted.ensures

pub returns-in-Refused : goal.returns-in-Refused
returns-in-Refused c = fronted-rest _ _ c.in-Refused.is c.front-fronted.ensures

pub returns-in-HandedOn : goal.returns-in-HandedOn
returns-in-HandedOn c =
    let early = c in
    kept_on (fronted-rest _ _ c.in-HandedOn.is early.front-fronted.ensures) c.serve.ensures
