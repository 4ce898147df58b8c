-- For a private clause: what is known of a keeper where its plays weren't counted.
use Rattle.sg_endings.specs.declared.stop.Stop.{Stop}
use Rattle.sg_endings.specs.declared.stop.Stop.TheVariants as stop
use Rattle.sg_keeper.specs.View.{Broke, Ran, View}

abbrev pub StopsCounting : Stop → View → View → Type 0
StopsCounting stop.Keeper old new = Broke old new
StopsCounting stop.Memory old new = Ran 0 old new
StopsCounting _ old new = ⊥
