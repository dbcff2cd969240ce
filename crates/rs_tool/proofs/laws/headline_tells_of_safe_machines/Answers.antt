use Rattle.rs_tool.proofs.laws.headline_tells_of_safe_machines.Goals as goal

pub returns-clause-fits : goal.returns-clause-fits
returns-clause-fits c = λ bytes h. h.safe.fits

pub returns-clause-goes_on : goal.returns-clause-goes_on
returns-clause-goes_on c = λ bytes h. h.safe.goes_on
