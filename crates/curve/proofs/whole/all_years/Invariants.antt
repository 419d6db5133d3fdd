use Rattle.curve.specs.Files.{file_view}
use Rattle.curve.specs.Places.{places_of}
use Rattle.curve.proofs.Years.{YearsWalked}
use Rattle.curve.proofs.whole.all_years.Given as goal

abbrev pub invariant-loop-k : goal.invariant-loop-k
invariant-loop-k l =
    YearsWalked l.n (places_of l.site_file.site.now (file_view l.site_file.file.now l.site_file.cas.now) l.cases l.rates) l.k l.t l.present l.curve
