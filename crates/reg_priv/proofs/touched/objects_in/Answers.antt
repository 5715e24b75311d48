use Rattle.std.proofs.Common.{codes, refl}
use Rattle.reg_priv.proofs.Below.{directly}
use Rattle.reg_priv.proofs.touched.objects_in.Goals as goal

pub returns-clause-each : goal.returns-clause-each
returns-clause-each c =
    directly c.args.folder c.args.facts.now (codes ":") c.in_ok-names.names c.put_all_named.new.found.items c.law_sound.ensures refl c.in_ok-names.ensures c.law_by_bytes.ensures.same
    c.in_ok-put_all_named.ensures.folders c.in_ok-put_all_named.ensures.groups c.in_ok-put_all_named.ensures.definitions c.in_ok-put_all_named.ensures.attributes
