-- What the points of a winter day are computed from, as the code lends it.
use Rattle.points.specs.declared.days.WinterDay.{WinterDay}
use Rattle.points.specs.Sources.{Day, day}

abbrev pub day_view : WinterDay → Day
day_view d = day d.blocks.now.near.now d.blocks.now.far.now d.blocks.now.slots.now d.years.now d.curves.now d.cas.now
