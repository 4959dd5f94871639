use Rattle.calls.proofs.beside.put_beside.Goals as goal

pub returns-clause-serves : goal.returns-clause-serves
returns-clause-serves c = λ pool served. c.put_last.ensures.serves pool (c.put_taken.ensures.serves pool (c.put_leg_in.ensures.serves pool served))
