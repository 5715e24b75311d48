use Rattle.reg_names.proofs.names.Names.edit.Goals as goal

pub returns : goal.returns
returns c = λ at by can. c.law_edit.ensures at by c.args.command.now can
