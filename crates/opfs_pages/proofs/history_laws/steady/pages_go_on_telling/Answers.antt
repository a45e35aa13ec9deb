use Rattle.opfs_pages.proofs.history_laws.Telling.{there-goes-on, told-goes-on}
use Rattle.opfs_pages.proofs.history_laws.steady.pages_go_on_telling.Goals as goal

pub returns-clause-there : goal.returns-clause-there
returns-clause-there c = λ o h more agent row old new none stay was whole. there-goes-on o h more agent row old new none stay was whole

pub returns-clause-told : goal.returns-clause-told
returns-clause-told c = λ o h more agent row old new base c d none stay alike was told whole. told-goes-on o h more agent row old new none stay base c d alike was told whole
