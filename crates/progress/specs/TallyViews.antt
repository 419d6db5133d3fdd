-- The last dates and the numbers by year, in the code and in the definitions of document 01.
use Rattle.meaning.specs.Record as meant
use Rattle.progress.specs.declared.LastDates.{LastDates}
use Rattle.progress.specs.declared.Tallies.{Tallies}

abbrev pub last_dates_view : LastDates → meant.LastDates
last_dates_view k = record { c = k.c; x = k.x; d = k.d; p = k.p; b = k.b; r = k.r }

abbrev pub tallies_view : Tallies → meant.Tallies
tallies_view k = record { profile_dates = k.profile_dates; daily_dates = k.daily_dates; breaks = k.breaks; rates = k.rates }
