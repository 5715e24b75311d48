use Rattle.std.proofs.Common.{refl}
use Rattle.reg_http.specs.Routes.{with_others}
use Rattle.reg_http.proofs.route.add_others.Goals as goal

pub returns : goal.returns
unfolding with_others
returns c =
    rw (
      c.in_ok-add-4.ensures,
      c.in_ok-add-3.ensures,
      c.in_ok-add-2.ensures,
      c.in_ok-add.ensures,
    )
    refl
