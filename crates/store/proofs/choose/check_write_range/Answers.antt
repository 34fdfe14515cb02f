use Rattle.std.proofs.Common.{[], ◌∷◌, refl, ap, ◌∙◌}
use Rattle.layout.specs.Refusal.{refused_by}
use Rattle.store.specs.Numbers.{check8, check16}
use Rattle.store.proofs.Checks.{refused_and}
use Rattle.store.proofs.choose.check_write_range.Goals as goal

pub returns : goal.returns
returns c =
    let a = c.args in
    ap refused_by c.and.ensures
    ∙ refused_and c.check_range.result c.check_page.result (check8 a.addr a.len ∷ []) (check16 a.addr a.len ∷ []) refl c.check_range.ensures c.check_page.ensures
