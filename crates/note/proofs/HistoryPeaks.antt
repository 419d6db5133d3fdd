-- What the history of an accepted AL and filière has in the note: peak days in each year, and CA.
use Prim.Native.Nat.{ℕ}
use lib.Dec.{T}
use Rattle.calendar.specs.Spans.{among, history_years}
use Rattle.calendar.proofs.Laws.{history_year_lem}
use Rattle.note.specs.Peaks.{has_peaks}
use Rattle.note.proofs.PeakDays.{peak_year}

pub peaks : (al f y : ℕ) → T (among (history_years al f) y) → T (has_peaks y)
peaks al f y t = let s = history_year_lem al f y t in peak_year y s.0 s.1
