use Rattle.door_script.proofs.line.Name.call.Goals as goal

pub returns-in-AddCx : goal.returns-in-AddCx
returns-in-AddCx c = rw c.in-AddCx.is
