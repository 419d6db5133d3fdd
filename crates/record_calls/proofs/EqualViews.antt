-- Equal views are equal records: what the promises say of views they say of records.
use mathlib.Core.Path.{◌≡◌, refl, ap, sym, ◌∙◌}
use Rattle.std.specs.Prelude.{Option}
use Rattle.rounding.specs.Units.{in_w, in_wh}
use Rattle.meaning.specs.Record as meant
use Rattle.meaning.specs.Record.{Rec}
use Rattle.line_form.specs.Views.{meter_view, meter_repr}
use Rattle.line_form.proofs.LetterLaws.{meter_back}
use Rattle.line_form.specs.declared.Meter.{Meter}
use Rattle.progress.specs.declared.State.{State}
use Rattle.progress.specs.declared.State.TheVariants.{NeverOpened, Open, Refused, Closed}
use Rattle.progress.specs.ProgressViews.{state_view}
use Rattle.record_calls.specs.Views.{view}
use Rattle.record_calls.specs.declared.Record.{Record}

same_meter : (m n : Option Meter) → meter_view m ≡ meter_view n → m ≡ n
same_meter m n e = sym (meter_back m) ∙ ap meter_repr e ∙ meter_back n

abbrev state_repr : meant.State → State
state_repr meant.unopened = NeverOpened
state_repr meant.open_state = Open
state_repr meant.refused_state = Refused
state_repr meant.closed_state = Closed

state_back : (st : State) → state_repr (state_view st) ≡ st
state_back NeverOpened = refl
state_back Open = refl
state_back Refused = refl
state_back Closed = refl

same_state : (st su : State) → state_view st ≡ state_view su → st ≡ su
same_state st su e = sym (state_back st) ∙ ap state_repr e ∙ state_back su

pub same_record : (r q : Record) → view r ≡ view q → r ≡ q
same_record r q e = λ i. record {
  state = same_state r.state q.state (ap (λ (s : Rec). s.state) e) i;
  count = ap (λ (s : Rec). s.count) e i;
  progress = record {
    last = ap (λ (s : Rec). s.last) e i;
    site = record {
      al = ap (λ (s : Rec). s.site.al) e i;
      filiere = ap (λ (s : Rec). s.site.filiere) e i;
      meter = same_meter r.progress.site.meter q.progress.site.meter (ap (λ (s : Rec). s.site.meter) e) i;
      ps = ap (λ (s : Rec). in_w s.site.ps) e i;
    };
    readings = ap (λ (s : Rec). s.readings) e i;
    last_index = ap (λ (s : Rec). in_wh s.last_index) e i;
    lasts = record {
      c = ap (λ (s : Rec). s.lasts.c) e i;
      x = ap (λ (s : Rec). s.lasts.x) e i;
      d = ap (λ (s : Rec). s.lasts.d) e i;
      p = ap (λ (s : Rec). s.lasts.p) e i;
      b = ap (λ (s : Rec). s.lasts.b) e i;
      r = ap (λ (s : Rec). s.lasts.r) e i;
    };
    tallies = record {
      profile_dates = ap (λ (s : Rec). s.tallies.profile_dates) e i;
      daily_dates = ap (λ (s : Rec). s.tallies.daily_dates) e i;
      breaks = ap (λ (s : Rec). s.tallies.breaks) e i;
      rates = ap (λ (s : Rec). s.tallies.rates) e i;
    };
  };
}
