use Rattle.settings.proofs.Applied.{main_settled}
use Rattle.settings.proofs.inherit.main_settings.Goals as goal

pub returns : goal.returns
returns c =
    main_settled c.args.index c.blank.result c.after_all-row.result _ c.args.segments.now c.blank.ensures c.after_all-row.ensures.applied
    c.inherited.ensures
