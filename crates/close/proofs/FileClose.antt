-- What a close promises of a record and its blocks, from the result of the close of its file.
use mathlib.Core.Path.{◌≡◌, refl, ap, ap₂, sym, subst, ◌∙◌}
use mathlib.Core.Bool.{Bool, true, false, ◌&&◌, not, cond}
use mathlib.Core.List.{List}
use mathlib.Core.Option.{Option, some, none}
use Prim.Native.Nat.{ℕ, ◌-◌, ◌≤◌, ◌<◌}
use native.Mathlib.Omega.{arith}
use lib.Dec.{T, leb}
use borrow.Author.Tests.{eq-eqb, ne_eqb}
use Rattle.lists.specs.Lists.{first_of}
use Rattle.lists.proofs.Tests.{and_parts}
use Rattle.calendar.specs.Spans.{is_known, axis_years}
use Rattle.rounding.specs.Units.{in_w}
use Rattle.meaning.specs.Filing.{Site, Filing}
use Rattle.meaning.specs.Refusals.{is_too_soon, most_readings}
use Rattle.meaning.specs.Line.{most_index}
use Rattle.meaning.specs.Level.{report_of, curve_of}
use Rattle.meaning.specs.Closing.{CloseReason, no_end, partial, no_data, zero_total, too_high, close_number, close_holds, close_order, closing_refusal}
use Rattle.meaning.specs.Blocks.{Blocks, sizes_fit}
use Rattle.meaning.specs.Record.{refused_state, closed_state, is_open, Rec, in_state, is_taken, site_of_rec, history_of_site, history_of_rec, axis_of_rec, site_fits, last_dates_fit, rec_fits, points_fit, slots_fit, daily_fits, contents_fit, filing_held, filing_of}
use Rattle.meaning.specs.Calls.{refused, reported, out, with_curve, close_by, close_of}
use Rattle.demands.proofs.Bound.Counted.{some_point}
use Rattle.readings.specs.Columns.{Columned}
use Rattle.std.specs.Prelude.{Result, Ok, Err}
use Rattle.refusals.specs.declared.Refusal.{Refusal}
use Rattle.refusals.specs.Refusals.{refusal_number, of_close_reason}
use Rattle.refusals.proofs.Laws.{close_numbers}
use Rattle.close.specs.declared.outcome.file.FileReport.{FileReport}
use Rattle.close.specs.Closes.{FileFits, FileOut, file_out, report_repr, file_out_by, file_out_of}
use Rattle.close.proofs.FileFacts.{site_words}
use Rattle.close.proofs.Years.{YearsReported, years_reported}

-- ---- a record whose E was taken
taken : (s : Rec) → s.last ≡ 8 → is_taken s ≡ true
unfolding is_taken
taken s e = rw e

site_is : (s : Rec) → s.last ≡ 8 → site_of_rec s ≡ s.site
unfolding site_of_rec
site_is s e = ap (λ (b : Bool). cond b s.site Rattle.meaning.specs.Filing.no_site) (taken s e)

pub filing_is : (s : Rec) (w : Blocks) → s.last ≡ 8 → filing_of s w ≡ filing_held s.site s.readings s.tallies true w
unfolding filing_of
filing_is s w e = ap₂ (λ (t : Site) (b : Bool). filing_held t s.readings s.tallies b w) (site_is s e) (eq-eqb s.last 8 e)

-- what S gave
site_given : (s : Rec) → T (rec_fits s) → s.last ≡ 8 → T (site_fits true s.site) × T (not (is_too_soon s.site.al s.site.filiere))
unfolding rec_fits
site_given s r e =
    let a = and_parts (leb s.count 9999 && leb s.last 8) _ r in
    let b = and_parts (site_fits (is_taken s) s.site && not (is_too_soon s.site.al s.site.filiere)) _ a.1 in
    let c = and_parts (site_fits (is_taken s) s.site) _ b.0 in
    (rw (taken s e) at c.0, c.1)

-- what the close of its file requires
pub file_fits : (s : Rec) (w : Blocks) {ps xs ks : List ℕ} → Columned w s.readings ps xs ks → (sizes_fit w && (rec_fits s && contents_fit s w)) ≡ true → s.last ≡ 8
    → FileFits s.site s.readings s.tallies w ps xs ks
unfolding rec_fits contents_fit history_of_rec axis_of_rec
file_fits s w cols q e =
    let a = and_parts (sizes_fit w) _ (subst T (sym q) tt) in
    let b = and_parts (rec_fits s) (contents_fit s w) a.1 in
    let r = and_parts (leb s.count 9999 && leb s.last 8) _ b.0 in
    let t = and_parts (site_fits (is_taken s) s.site && not (is_too_soon s.site.al s.site.filiere)) _ r.1 in
    let n = and_parts (leb s.readings most_readings && leb s.last_index most_index) _ t.1 in
    let m = and_parts (leb s.readings most_readings) _ n.0 in
    let k = and_parts (last_dates_fit (history_of_site (site_of_rec s)) s.lasts) _ n.1 in
    let p = rw (site_is s e) at b.1 in
    let h = history_of_site s.site in
    let f = and_parts (points_fit h (s.site.al - 9) w.near && points_fit h (s.site.al - 14) w.far) _ p in
    let x = and_parts (points_fit h (s.site.al - 9) w.near) _ f.0 in
    let d = and_parts (slots_fit h w.slots && daily_fits (axis_years h) w.daily) _ f.1 in
    let y = and_parts (slots_fit h w.slots) _ d.0 in
    record {
      site = (site_given s b.0 e).0;
      not_too_soon = (site_given s b.0 e).1;
      few = lib.Dec.leb→le s.readings most_readings m.0;
      tallies = rw (site_is s e) at k.1;
      sizes = a.0;
      near = x.0;
      far = x.1;
      slots = y.0;
      daily = y.1;
      readings = d.1;
      columns = cols;
    }

-- ---- neither 1 nor 13
pub close_of_lem : (s : Rec) (w : Blocks) → (sizes_fit w && (rec_fits s && contents_fit s w)) ≡ true → is_open s.state ≡ true → close_of s w ≡ close_by (closing_refusal (filing_of s w)) s w
unfolding close_of
close_of_lem s w q e = rw (q, e)

-- 14
pub close_unended : (s : Rec) (w : Blocks) → (s.last ≡ 8 → ⊥) → close_by (closing_refusal (filing_of s w)) s w ≡ out (refused 14 s.count) (in_state refused_state s.count s) w
unfolding close_by closing_refusal first_of close_order close_holds filing_of filing_held close_number
close_unended s w n = rw (ne_eqb s.last 8 n)

-- ---- the numbers of a refusal: 15 to 18 where E was taken
number_range : (k : CloseReason) → (k ≡ no_end → ⊥) → (15 ≤ close_number k) × (close_number k ≤ 18)
unfolding close_number
number_range no_end n = absurd (n refl)
number_range partial n = (omega arith, omega arith)
number_range no_data n = (omega arith, omega arith)
number_range zero_total n = (omega arith, omega arith)
number_range too_high n = (omega arith, omega arith)

is_unended : Option CloseReason → Bool
is_unended (some no_end) = true
is_unended (some partial) = false
is_unended (some no_data) = false
is_unended (some zero_total) = false
is_unended (some too_high) = false
is_unended none = false

not_unended : (F : Filing) → F.ended ≡ true → is_unended (closing_refusal F) ≡ false
unfolding closing_refusal first_of close_order is_unended
not_unended F e = go (close_holds no_end F) (close_holds partial F) (close_holds no_data F) (close_holds zero_total F) (close_holds too_high F) ended
  where
    ended : close_holds no_end F ≡ false
    ended = unfold close_holds in (rw e)

    go : (u p l z x : Bool) → u ≡ false → is_unended (cond u (some no_end) (cond p (some partial) (cond l (some no_data) (cond z (some zero_total) (cond x (some too_high) none))))) ≡ false
    go true p l z x h = absurd (subst T h tt)
    go false true l z x h = refl
    go false false true z x h = refl
    go false false false true x h = refl
    go false false false false true h = refl
    go false false false false false h = refl

-- ---- the result, for the filing in record and blocks
pub record Reported (s : Rec) (w : Blocks) (r : FileReport) (c : List ℕ) : Type 0 where
  pub result : close_by (closing_refusal (filing_of s w)) s w ≡ out (reported (report_of (filing_of s w))) (in_state closed_state s.count s) (with_curve w c)
  pub closing : r ≡ report_repr (report_of (filing_of s w))
  pub level : r.level ≡ in_w (report_of (filing_of s w)).level
  pub points : r.points ≡ (report_of (filing_of s w)).points
  pub some : 0 < r.points
  pub years : YearsReported (filing_of s w)

module _ (s : Rec) (w : Blocks) (fits : (sizes_fit w && (rec_fits s && contents_fit s w)) ≡ true) (e : s.last ≡ 8) (r : Result FileReport Refusal) (c : List ℕ)
    (back : file_out r c ≡ file_out_of (filing_held s.site s.readings s.tallies true w) w.curve) where
  abbrev F : Filing
  F = filing_of s w

  handed : (o : Option CloseReason) → closing_refusal F ≡ o → file_out r c ≡ file_out_by o F w.curve
  unfolding file_out_of
  handed o q = back ∙ ap (λ (G : Filing). file_out_by (closing_refusal G) G w.curve) (sym (filing_is s w e)) ∙ ap (λ (x : Option CloseReason). file_out_by x F w.curve) q

  site_known : T (is_known s.site.al s.site.filiere)
  site_known =
      let a = and_parts (sizes_fit w) _ (subst T (sym fits) tt) in
      let b = and_parts (rec_fits s) (contents_fit s w) a.1 in
      (site_words s.site (site_given s b.0 e).0).0

  is_known_lem : T (is_known F.site.al F.site.filiere)
  is_known_lem = rw (filing_is s w e) (unfold filing_held in site_known)

  is_ended : F.ended ≡ true
  unfolding filing_of filing_held
  is_ended = eq-eqb s.last 8 e

  low : (k : CloseReason) → closing_refusal F ≡ some k → k ≡ no_end → ⊥
  unfolding is_unended
  low k q z = let d : is_unended (closing_refusal F) ≡ true = ap is_unended (q ∙ ap some z) in subst T (sym d ∙ not_unended F is_ended) tt

  -- refused by 15 to 18: the curve is left
  pub close_refuses : (y : Refusal) → r ≡ Err y → close_by (closing_refusal F) s w ≡ out (refused (refusal_number y) s.count) (in_state refused_state s.count s) (with_curve w c)
  unfolding file_out_by close_by with_curve
  close_refuses y n = go (closing_refusal F) refl
    where
      go : (o : Option CloseReason) → closing_refusal F ≡ o → close_by o s w ≡ out (refused (refusal_number y) s.count) (in_state refused_state s.count s) (with_curve w c)
      go none q =
          let d : r ≡ Ok (report_repr (report_of F)) = ap (λ (x : FileOut). x.closing) (handed none q) in
          let z : ⊥ = cc in
          absurd z
      go (some k) q =
          let d : r ≡ Err (of_close_reason k) = ap (λ (x : FileOut). x.closing) (handed (some k) q) in
          let g : of_close_reason k ≡ y = cc in
          ap₂ (λ (m : ℕ) (l : List ℕ). out (refused m s.count) (in_state refused_state s.count s) (with_curve w l))
          (sym (close_numbers k) ∙ ap refusal_number g)
          (sym (ap (λ (x : FileOut). x.curve) (handed (some k) q)))

  -- reported
  pub close_reports : (f : FileReport) → r ≡ Ok f → Reported s w f c
  unfolding file_out_by close_by report_repr report_of
  close_reports f z = go (closing_refusal F) refl
    where
      go : (o : Option CloseReason) → closing_refusal F ≡ o → Reported s w f c
      go none q =
          let d : r ≡ Ok (report_repr (report_of F)) = ap (λ (x : FileOut). x.closing) (handed none q) in
          let h : f ≡ report_repr (report_of F) = cc in
          let l : c ≡ curve_of F = ap (λ (x : FileOut). x.curve) (handed none q) in
          record {
            result = ap (λ (x : Option CloseReason). close_by x s w) q ∙ ap (λ (ys : List ℕ). out (reported (report_of F)) (in_state closed_state s.count s) (with_curve w ys)) (sym l);
            closing = h;
            level = ap (λ (x : FileReport). x.level) h;
            points = ap (λ (x : FileReport). x.points) h;
            some = rw h (some_point F is_known_lem);
            years = years_reported F is_known_lem;
          }
      go (some k) q =
          let d : r ≡ Err (of_close_reason k) = ap (λ (x : FileOut). x.closing) (handed (some k) q) in
          let n : ⊥ = cc in
          absurd n

  -- 15 to 18
  pub close_number_lem : (y : Refusal) → r ≡ Err y → (15 ≤ refusal_number y) × (refusal_number y ≤ 18)
  unfolding file_out_by
  close_number_lem y z = go (closing_refusal F) refl
    where
      go : (o : Option CloseReason) → closing_refusal F ≡ o → (15 ≤ refusal_number y) × (refusal_number y ≤ 18)
      go none q =
          let d : r ≡ Ok (report_repr (report_of F)) = ap (λ (x : FileOut). x.closing) (handed none q) in
          let n : ⊥ = cc in
          absurd n
      go (some k) q =
          let d : r ≡ Err (of_close_reason k) = ap (λ (x : FileOut). x.closing) (handed (some k) q) in
          let g : y ≡ of_close_reason k = cc in
          rw (g, close_numbers k) (number_range k (low k q))
