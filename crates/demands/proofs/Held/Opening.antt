-- Before S, and when it is taken, record and blocks are fresh: they hold the site and nothing else.
use mathlib.Core.Path.{◌≡◌, refl, ap}
use mathlib.Core.Bool.{Bool, true, false, not, ◌&&◌, cond}
use mathlib.Core.List.{[], ◌∷◌}
use mathlib.Core.Option.{none}
use Prim.Native.Nat.{ℕ, ◌+◌, ◌-◌, ◌*◌}
use lib.Dec.{ltb, eqb}
use lib.ListN.{replicate}
use Rattle.lists.specs.Lists.{any, seek, tab, present, count}
use Rattle.lists.proofs.Tables.{get_d_fresh}
use Rattle.calendar.specs.declared.Years.{Years}
use Rattle.calendar.specs.Spans.{among, axis_years}
use Rattle.note.specs.Coefficients.{ca_of}
use Rattle.meaning.specs.Filing.{Site, no_site, Filing}
use Rattle.meaning.specs.Line.{Line, S, D, P, tag_of, site_on}
use Rattle.meaning.specs.File.{site_in, point_on, point_in, profile_on, profile_in, daily_on, daily_in, reading_on, readings_in, broken_in, rate_in, dates_in, ended_in, filing_in}
use Rattle.meaning.specs.Blocks.{missing_point, points_size, slots_size, daily_size, point_of_code, is_near, near_start, far_start, slots_start, slot_at, code_at, readings_of, fresh_blocks}
use Rattle.meaning.specs.Record.{empty_rec, fresh_rec, history_of_site, point_held, profile_held, daily_held, by_year, rate_of_code, filing_held}

-- a filing of a site alone
unfoldable pub bare : Site → Filing
bare t = record {
  site = t;
  point = λ y v h. none;
  profile = λ y v h. 0;
  daily = λ y p. 0;
  readings = [];
  broken = λ y. false;
  rate = λ y. none;
  profile_dates = λ y. 0;
  daily_dates = λ y. 0;
  ended = false;
  ca = λ y. ca_of y t.filiere;
}

-- ---- fresh blocks and tallies
both_ways : {A : Type 0} (b : Bool) (x y d : A) → x ≡ d → y ≡ d → cond b x y ≡ d
both_ways true x y d e f = e
both_ways false x y d e f = f

fresh_point : (t : Site) (y v h : ℕ) → point_held t fresh_blocks y v h ≡ none
unfolding point_held code_at fresh_blocks point_of_code
fresh_point t y v h =
    both_ways (among (history_of_site t) y && (ltb v 152 && ltb h 20)) _ none none
    (ap point_of_code (both_ways (is_near t.al y) _ _ missing_point (get_d_fresh points_size (near_start t.al y + slot_at v h) missing_point)
    (get_d_fresh points_size (far_start t.al y + slot_at v h) missing_point))) refl

fresh_profile : (h : Years) (y v k : ℕ) → profile_held h fresh_blocks y v k ≡ 0
unfolding profile_held fresh_blocks
fresh_profile h y v k = both_ways (among h y && (ltb v 152 && ltb k 20)) _ 0 0 (get_d_fresh slots_size (slots_start h.first y + slot_at v k) 0) refl

fresh_daily : (axis : Years) (y p : ℕ) → daily_held axis fresh_blocks y p ≡ 0
unfolding daily_held fresh_blocks
fresh_daily axis y p = both_ways (among axis y && ltb p 366) _ 0 0 (get_d_fresh daily_size (366 * (y - axis.first) + p) 0) refl

fresh_number : (span : Years) (n y : ℕ) → by_year span (replicate n 0) y ≡ 0
unfolding by_year
fresh_number span n y = both_ways (among span y) _ 0 0 (get_d_fresh n (y - span.first) 0) refl

pub fresh_held : (t : Site) → filing_held t 0 fresh_rec.tallies false fresh_blocks ≡ bare t
unfolding filing_held bare fresh_rec empty_rec readings_of tab rate_of_code
fresh_held t = λ i. record {
  site = t;
  point = λ y v h. fresh_point t y v h i;
  profile = λ y v h. fresh_profile (history_of_site t) y v h i;
  daily = λ y p. fresh_daily (axis_years (history_of_site t)) y p i;
  readings = [];
  broken = λ y. ap (λ (n : ℕ). not (eqb n 0)) (fresh_number (history_of_site t) 10 y) i;
  rate = λ y. ap rate_of_code (fresh_number (history_of_site t) 10 y) i;
  profile_dates = λ y. fresh_number (history_of_site t) 10 y i;
  daily_dates = λ y. fresh_number (axis_years (history_of_site t)) 12 y i;
  ended = false;
  ca = λ y. ca_of y t.filiere;
}

-- ---- no line, or S alone
pub none_in : filing_in [] ≡ bare no_site
unfolding filing_in bare site_in point_in profile_in daily_in readings_in broken_in rate_in dates_in ended_in seek any count present
none_in = refl

module _ (l : Line) (u : tag_of l ≡ S) where
  first_site : site_in (l ∷ []) ≡ site_on l
  unfolding site_in seek
  first_site = rw u

  first_point : (y v h : ℕ) → point_in (l ∷ []) y v h ≡ none
  unfolding point_in point_on seek
  first_point y v h = rw u

  first_profile : (y v h : ℕ) → profile_in (l ∷ []) y v h ≡ 0
  unfolding profile_in profile_on seek
  first_profile y v h = rw u

  first_daily : (y p : ℕ) → daily_in (l ∷ []) y p ≡ 0
  unfolding daily_in daily_on seek
  first_daily y p = rw u

  first_readings_lem : readings_in (l ∷ []) ≡ []
  unfolding readings_in reading_on present
  first_readings_lem = rw u

  first_broken : (y : ℕ) → broken_in (l ∷ []) y ≡ false
  unfolding broken_in any
  first_broken y = rw u

  first_rate : (y : ℕ) → rate_in (l ∷ []) y ≡ none
  unfolding rate_in seek
  first_rate y = rw u

  first_profile_dates : (y : ℕ) → dates_in P (l ∷ []) y ≡ 0
  unfolding dates_in count
  first_profile_dates y = rw u

  first_daily_dates : (y : ℕ) → dates_in D (l ∷ []) y ≡ 0
  unfolding dates_in count
  first_daily_dates y = rw u

  first_ended : ended_in (l ∷ []) ≡ false
  unfolding ended_in any
  first_ended = rw u

  pub first_in : filing_in (l ∷ []) ≡ bare (site_on l)
  unfolding filing_in bare
  first_in = λ i. record {
    site = first_site i;
    point = λ y v h. first_point y v h i;
    profile = λ y v h. first_profile y v h i;
    daily = λ y p. first_daily y p i;
    readings = first_readings_lem i;
    broken = λ y. first_broken y i;
    rate = λ y. first_rate y i;
    profile_dates = λ y. first_profile_dates y i;
    daily_dates = λ y. first_daily_dates y i;
    ended = first_ended i;
    ca = λ y. ca_of y (first_site i).filiere;
  }
