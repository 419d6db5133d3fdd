-- The three demands, each one statement.
use Rattle.std.specs.Prelude.{◌≡◌, ◌⊎◌, List, ℕ, ◌+◌, ◌*◌, ◌≤◌, ◌<◌, T}
use Rattle.lists.specs.Lists.{Each}
use Rattle.rounding.specs.Points.{Fraction}
use Rattle.meaning.specs.Filing.{Filing}
use Rattle.meaning.specs.Line.{Line}
use Rattle.meaning.specs.File.{filing_in}
use Rattle.meaning.specs.Level.{Report, lowest_rate}
use Rattle.demands.specs.Exact.{exact_fraction}
use Rattle.meaning.specs.Blocks.{Blocks, sizes_fit}
use Rattle.meaning.specs.Record.{Rec}
use Rattle.meaning.specs.Calls.{Answer, accepted, refused, reported, Out, opening_of}
use Rattle.meaning.specs.Sheet.{Sheet, refused_sheet, level, outcome_of}
use Rattle.demands.specs.CallLists.{Call, opening, line, close, called, Answered, answers_of, run}

-- ---- demand 1: a call is accepted or refused with a number of document 01, and a refusal leaves every lent list
-- the numbers of a call's refusals
unfoldable pub Number : Call → ℕ → Type 0
Number opening n = n ≡ 1
Number (line l) n = (1 ≤ n) × (n ≤ 13)
Number close n = (n ≡ 1) ⊎ ((13 ≤ n) × (n ≤ 18))

pub record Unchanged (w v : Blocks) : Type 0 where
  pub near : v.near ≡ w.near
  pub far : v.far ≡ w.far
  pub slots : v.slots ≡ w.slots
  pub daily : v.daily ≡ w.daily
  pub readings : v.readings ≡ w.readings
  pub curve : v.curve ≡ w.curve

-- an opening or a line is taken, a close reports, or the call is refused
unfoldable pub Answers : Call → Blocks → Out → Answer → Type 0
Answers opening w o accepted = Unit {0}
Answers opening w o (refused n c) = Number opening n × Unchanged w o.blocks
Answers opening w o (reported r) = ⊥
Answers (line l) w o accepted = Unit {0}
Answers (line l) w o (refused n c) = Number (line l) n × Unchanged w o.blocks
Answers (line l) w o (reported r) = ⊥
Answers close w o accepted = ⊥
Answers close w o (refused n c) = Number close n × Unchanged w o.blocks
Answers close w o (reported r) = Unit {0}

-- a run ends in one sheet: a level, or a refusal by a number of document 01
unfoldable pub Ends : Sheet → Type 0
Ends (refused_sheet n c) = (1 ≤ n) × (n ≤ 18)
Ends (level r) = Unit {0}

pub record Demand-1 : Type 0 where
  pub calls : (k : Call) (s : Rec) (w : Blocks) → Answers k w (called k s w) (called k s w).answer
  pub runs : (s : Rec) (w : Blocks) (ls : List Line) → Ends (run s w ls).sheet

-- ---- demand 2: whatever the record and the blocks held, what opening, lines and close report and the curve that they leave are those of the lines
abbrev pub Demand-2 : Type 0
Demand-2 = (s : Rec) (w : Blocks) → T (sizes_fit w) → (ls : List Line) → run s w ls ≡ outcome_of ls

-- ---- demand 3
-- the bound in mW over 2 × T: 500 from whole watts, a half where rates round, and so many halves, before the rate, times 1000 / T
unfoldable pub bound_over : ℕ → ℕ → ℕ → ℕ
bound_over halves rates t = 1000 * t + rates * t + 1000 * halves

-- 1000 × n mW lie within the bound of the fraction q, whose denominator is not 0
pub record Within (halves rates t n : ℕ) (q : Fraction) : Type 0 where
  pub positive : 0 < q.den
  pub least : 0 < t
  pub above : 2 * t * (1000 * n) * q.den ≤ 2 * t * q.num + bound_over halves rates t * q.den
  pub below : 2 * t * q.num ≤ 2 * t * (1000 * n) * q.den + bound_over halves rates t * q.den

-- 500½ + 1500 / T
abbrev pub Bounded : Filing → Report → Type 0
Bounded F r = Within 3 1 (lowest_rate F) r.level (exact_fraction F)

unfoldable pub BoundedIfReported : List Line → Answer → Type 0
BoundedIfReported f accepted = Unit {0}
BoundedIfReported f (refused n c) = Unit {0}
BoundedIfReported f (reported r) = Bounded (filing_in f) r

-- for every list of calls that starts with an opening that is not refused, on whatever record and blocks
abbrev pub Demand-3 : Type 0
Demand-3 =
    (s : Rec) (w : Blocks) → (opening_of s w).answer ≡ accepted → (ks : List Call)
    → Each (λ (a : Answered). BoundedIfReported a.file a.answer) (answers_of s w ks)
