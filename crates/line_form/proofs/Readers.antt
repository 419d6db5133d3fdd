-- What the reader of each tag gives, from what it finds of each field: none where one is not in its form, else what the line says.
use Rattle.std.specs.Prelude.{Some, None}
use Rattle.std.specs.Bool.{then_some}
use mathlib.Core.Path.{◌≡◌, refl, sym}
use mathlib.Core.Bool.{Bool, true, false}
use mathlib.Core.List.{List}
use Prim.Native.Nat.{ℕ, min}
use Rattle.lists.proofs.Tests.{and_false}
use Rattle.text.specs.Fields.{up_to, past, rest_at, field_at, reads, edition}
use Rattle.text.specs.Numbers.{is_number, value_of, number_in, most}
use Rattle.meaning.specs.Filing as meant
use Rattle.meaning.specs.Filing.{no_meter, curve_meter, index_meter}
use Rattle.meaning.specs.Line.{Line, Tag, S, X, D, B, R, E, number_at, meter_of, is_meter, kind_of, is_kind}
use Rattle.rounding.specs.Units.{in_w, in_wh}
use Rattle.readings.specs.declared.Kind.{Kind}
use Rattle.readings.specs.Readings.{kind_repr}
use Rattle.line_form.specs.declared.Meter.{Meter}
use Rattle.line_form.specs.Views.{meter_repr}
use Rattle.calendar.specs.declared.Date.{Date}
use Rattle.line_form.specs.Reads.{capped_at, is_formed, is_date_formed, where_formed, kind_where, date_read_of, dated_read_of, site_read_of, reading_read_of, daily_read_of, rate_read_of}
use Rattle.line_form.proofs.Forms.{formed_site, formed_year, formed_rate, formed_count, formed_reading, formed_daily}

-- ---- a field: a number or not
no_number : (f : List ℕ) → None ≡ number_in f → is_number f ≡ false
unfolding number_in
no_number f e = go (is_number f) e
  where
    go : (b : Bool) → None ≡ then_some b (min (value_of f) most) → b ≡ false
    go true q = absurd (cc)
    go false q = refl

a_number : (f : List ℕ) (v : ℕ) → Some v ≡ number_in f → (is_number f ≡ true) × (v ≡ min (value_of f) most)
unfolding number_in
a_number f v e = go (is_number f) e
  where
    go : (b : Bool) → Some v ≡ then_some b (min (value_of f) most) → (b ≡ true) × (v ≡ min (value_of f) most)
    go true q = (refl, cc)
    go false q = absurd (cc)

-- a meter or not, a kind or not
no_meter_in : (m : meant.Meter) → None ≡ meter_repr m → is_meter m ≡ false
no_meter_in no_meter e = refl
no_meter_in curve_meter e = absurd (cc)
no_meter_in index_meter e = absurd (cc)

a_meter : (m : meant.Meter) (k : Meter) → Some k ≡ meter_repr m → is_meter m ≡ true
a_meter no_meter k e = absurd (cc)
a_meter curve_meter k e = refl
a_meter index_meter k e = refl

no_kind_in : (k : meant.Kind) → None ≡ kind_where k → is_kind k ≡ false
unfolding kind_where
no_kind_in k e = go (is_kind k) e
  where
    go : (b : Bool) → None ≡ then_some b (kind_repr k) → b ≡ false
    go true q = absurd (cc)
    go false q = refl

a_kind : (k : meant.Kind) (r : Kind) → Some r ≡ kind_where k → (is_kind k ≡ true) × (r ≡ kind_repr k)
unfolding kind_where
a_kind k r e = go (is_kind k) e
  where
    go : (b : Bool) → Some r ≡ then_some b (kind_repr k) → (b ≡ true) × (r ≡ kind_repr k)
    go true q = (refl, cc)
    go false q = absurd (cc)

-- ---- a line of a tag
pub unformed : {A : Type 0} (t : Tag) (l : Line) (a : A) → is_formed t l ≡ false → None ≡ where_formed t l a
unfolding where_formed
unformed t l a e = rw e

pub formed : {A : Type 0} (t : Tag) (l : Line) (a b : A) → is_formed t l ≡ true → b ≡ a → Some b ≡ where_formed t l a
unfolding where_formed
formed t l a b e q = rw (e, q)

-- ---- a date
module _ (l : Line) where
  pub no_year_on : None ≡ number_in (up_to (past l)) → dated_read_of l ≡ None
  unfolding dated_read_of is_date_formed field_at rest_at
  no_year_on e = rw (no_number _ e)

  pub no_month_on : None ≡ number_in (up_to (past (past l))) → dated_read_of l ≡ None
  unfolding dated_read_of is_date_formed field_at rest_at
  no_month_on e = rw (no_number _ e, and_false (is_number (up_to (past l))))

  pub no_day_on : None ≡ number_in (up_to (past (past (past l)))) → dated_read_of l ≡ None
  unfolding dated_read_of is_date_formed field_at rest_at
  no_day_on e = rw (no_number _ e, and_false (is_number (up_to (past (past l)))), and_false (is_number (up_to (past l))))

  pub date_on : (y m d : ℕ) → Some y ≡ number_in (up_to (past l)) → Some m ≡ number_in (up_to (past (past l))) → Some d ≡ number_in (up_to (past (past (past l))))
      → dated_read_of l ≡ Some (record { year = y; month = m; day = d })
  unfolding dated_read_of is_date_formed date_read_of capped_at number_at field_at rest_at
  date_on y m d p q r =
      let py = a_number _ y p in
      let pm = a_number _ m q in
      let pd = a_number _ d r in
      rw (py.0, pm.0, pd.0, py.1, pm.1, pd.1)

-- what is left past a date
pub past_date : (l r : List ℕ) → r ≡ past (past (past (past l))) → r ≡ rest_at l 4
unfolding rest_at
past_date l r e = e

-- what the proof of the date's reader needs
pub ruleset date_parts = (no_year_on, no_month_on, no_day_on, date_on, past_date)

pub undated : (l : Line) → dated_read_of l ≡ None → is_date_formed l ≡ false
unfolding dated_read_of
undated l e = go (is_date_formed l) e
  where
    go : (b : Bool) → then_some b (date_read_of l) ≡ None → b ≡ false
    go true q = absurd (cc)
    go false q = refl

pub dated_on : (l : Line) (d : Date) → dated_read_of l ≡ Some d → (is_date_formed l ≡ true) × (d ≡ date_read_of l)
unfolding dated_read_of
dated_on l d e = go (is_date_formed l) e
  where
    go : (b : Bool) → then_some b (date_read_of l) ≡ Some d → (b ≡ true) × (d ≡ date_read_of l)
    go true q = (refl, cc)
    go false q = absurd (cc)

-- ---- by tag
module _ (l : Line) where
  -- S
  pub no_edition : false ≡ reads (up_to (past l)) edition → None ≡ where_formed S l (site_read_of l)
  unfolding field_at rest_at
  no_edition e = unformed S l _ (rw (formed_site l, sym e))

  pub no_al : None ≡ number_in (up_to (past (past l))) → None ≡ where_formed S l (site_read_of l)
  unfolding field_at rest_at
  no_al e = unformed S l _ (rw (formed_site l, no_number _ e) (and_false _))

  pub no_filiere : None ≡ number_in (up_to (past (past (past l)))) → None ≡ where_formed S l (site_read_of l)
  unfolding field_at rest_at
  no_filiere e = unformed S l _ (rw (formed_site l, no_number _ e) (simp and_false))

  pub no_meter_on : None ≡ meter_repr (meter_of (up_to (past (past (past (past l)))))) → None ≡ where_formed S l (site_read_of l)
  unfolding field_at rest_at
  no_meter_on e = unformed S l _ (rw (formed_site l, no_meter_in _ e) (simp and_false))

  pub no_ps : None ≡ number_in (up_to (past (past (past (past (past l)))))) → None ≡ where_formed S l (site_read_of l)
  unfolding field_at rest_at
  no_ps e = unformed S l _ (rw (formed_site l, no_number _ e) (simp and_false))

  pub site_read : (a f p : ℕ) (m : Meter) → true ≡ reads (up_to (past l)) edition → Some a ≡ number_in (up_to (past (past l))) → Some f ≡ number_in (up_to (past (past (past l))))
      → Some m ≡ meter_repr (meter_of (up_to (past (past (past (past l)))))) → Some p ≡ number_in (up_to (past (past (past (past (past l))))))
      → Some (record { al = a; filiere = f; meter = Some m; ps = in_w p }) ≡ where_formed S l (site_read_of l)
  unfolding site_read_of capped_at number_at field_at rest_at
  site_read a f p m e ea ef em ep =
      let pa = a_number _ a ea in
      let pf = a_number _ f ef in
      let pp = a_number _ p ep in
      formed S l _ _ (rw (formed_site l, sym e, pa.0, pf.0, a_meter _ m em, pp.0)) (rw (pa.1, pf.1, em, pp.1))

  -- X
  pub reading_undated : dated_read_of l ≡ None → None ≡ where_formed X l (reading_read_of l)
  reading_undated e = unformed X l _ (rw (formed_reading l, undated l e))

  pub no_index : None ≡ number_in (up_to (rest_at l 4)) → None ≡ where_formed X l (reading_read_of l)
  unfolding field_at rest_at
  no_index e = unformed X l _ (rw (formed_reading l, no_number _ e) (and_false _))

  pub no_kind_on : None ≡ kind_where (kind_of (up_to (past (rest_at l 4)))) → None ≡ where_formed X l (reading_read_of l)
  unfolding field_at rest_at
  no_kind_on e = unformed X l _ (rw (formed_reading l, no_kind_in _ e) (simp and_false))

  pub reading_read : (d : Date) (i : ℕ) (k : Kind) → dated_read_of l ≡ Some d → Some i ≡ number_in (up_to (rest_at l 4)) → Some k ≡ kind_where (kind_of (up_to (past (rest_at l 4))))
      → Some (record { date = d; index = in_wh i; kind = k }) ≡ where_formed X l (reading_read_of l)
  unfolding reading_read_of capped_at number_at field_at rest_at
  reading_read d i k ed ei ek =
      let pd = dated_on l d ed in
      let pi = a_number _ i ei in
      let pk = a_kind _ k ek in
      formed X l _ _ (rw (formed_reading l, pd.0, pi.0, pk.0)) (rw (pd.1, pi.1, pk.1))

  -- D
  pub daily_undated : dated_read_of l ≡ None → None ≡ where_formed D l (daily_read_of l)
  daily_undated e = unformed D l _ (rw (formed_daily l, undated l e))

  pub no_sum : None ≡ number_in (up_to (rest_at l 4)) → None ≡ where_formed D l (daily_read_of l)
  unfolding field_at rest_at
  no_sum e = unformed D l _ (rw (formed_daily l, no_number _ e) (and_false _))

  pub daily_read : (d : Date) (s : ℕ) → dated_read_of l ≡ Some d → Some s ≡ number_in (up_to (rest_at l 4))
      → Some (record { date = d; sum = s }) ≡ where_formed D l (daily_read_of l)
  unfolding daily_read_of capped_at number_at field_at rest_at
  daily_read d s ed es =
      let pd = dated_on l d ed in
      let ps = a_number _ s es in
      formed D l _ _ (rw (formed_daily l, pd.0, ps.0)) (rw (pd.1, ps.1))

  -- B and E
  pub year_read : number_in (up_to (past l)) ≡ where_formed B l (capped_at l 1)
  unfolding where_formed number_in capped_at number_at field_at rest_at
  year_read = rw (formed_year l)

  pub count_read : number_in (up_to (past l)) ≡ where_formed E l (capped_at l 1)
  unfolding where_formed number_in capped_at number_at field_at rest_at
  count_read = rw (formed_count l)

  -- R
  pub rate_no_year : None ≡ number_in (up_to (past l)) → None ≡ where_formed R l (rate_read_of l)
  unfolding field_at rest_at
  rate_no_year e = unformed R l _ (rw (formed_rate l, no_number _ e))

  pub no_rate : None ≡ number_in (up_to (past (past l))) → None ≡ where_formed R l (rate_read_of l)
  unfolding field_at rest_at
  no_rate e = unformed R l _ (rw (formed_rate l, no_number _ e) (and_false _))

  pub rate_read : (y r : ℕ) → Some y ≡ number_in (up_to (past l)) → Some r ≡ number_in (up_to (past (past l))) → Some (record { year = y; rate = r }) ≡ where_formed R l (rate_read_of l)
  unfolding rate_read_of capped_at number_at field_at rest_at
  rate_read y r ey er =
      let py = a_number _ y ey in
      let pr = a_number _ r er in
      formed R l _ _ (rw (formed_rate l, py.0, pr.0)) (rw (py.1, pr.1))

-- what the proofs of the readers need
pub ruleset site_parts = (no_edition, no_al, no_filiere, no_meter_on, no_ps, site_read)

pub ruleset reading_parts = (reading_undated, no_index, no_kind_on, reading_read)

pub ruleset daily_parts = (daily_undated, no_sum, daily_read)

pub ruleset rate_parts = (rate_no_year, no_rate, rate_read)
