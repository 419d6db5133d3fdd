-- A close that reports counts some point, whatever record and blocks it got (document 01: the count is never 0).
use mathlib.Core.Path.{◌≡◌, refl, ap}
use mathlib.Core.Bool.{Bool, true, false, not, ◌&&◌, cond}
use mathlib.Core.Option.{Option, some, none}
use Prim.Native.Nat.{ℕ, ◌<◌}
use native.Mathlib.Omega.{arith}
use lib.Dec.{T, eqb, leb}
use Rattle.lists.proofs.Tests.{and_made, and_parts}
use Rattle.calendar.specs.Spans.{is_known}
use Rattle.meaning.specs.Filing.{Site, Filing}
use Rattle.meaning.specs.Refusals.{is_too_soon}
use Rattle.meaning.specs.Level.{Report, report_of}
use Rattle.meaning.specs.Closing.{CloseReason, closing_refusal}
use Rattle.meaning.specs.Blocks.{Blocks, sizes_fit}
use Rattle.meaning.specs.Record.{is_open, Rec, is_taken, site_of_rec, is_within, site_fits, rec_fits, contents_fit, filing_held, filing_of}
use Rattle.meaning.specs.Calls.{reported, leaves, close_by, close_of}
use Rattle.demands.proofs.Bound.Counted.{some_point}
use Rattle.demands.proofs.Sane.{ended}

-- the site of a record in its ranges, once S is taken, is one that document 01 knows
site_known : (t : Site) → T (site_fits true t) → T (is_known t.al t.filiere)
unfolding site_fits is_within is_known
site_known t h =
    let a = and_parts (leb 2021 t.al && leb t.al 2026) _ h in
    let b = and_parts (leb 1 t.filiere && leb t.filiere 11) _ a.1 in
    and_made (leb 2021 t.al && leb t.al 2026) (leb 1 t.filiere && leb t.filiere 11) a.0 b.0

taken : (s : Rec) → T (eqb s.last 8) → is_taken s ≡ true
unfolding is_taken
taken s t = let e : s.last ≡ 8 = lib.Dec.eqb→eq s.last 8 t in rw e

known : (s : Rec) (w : Blocks) → T (rec_fits s) → T (filing_of s w).ended → T (is_known (filing_of s w).site.al (filing_of s w).site.filiere)
unfolding rec_fits filing_of filing_held site_of_rec
known s w f t =
    let a = and_parts (leb s.count 9999 && leb s.last 8) _ f in
    let b = and_parts (site_fits (is_taken s) s.site && not (is_too_soon s.site.al s.site.filiere)) _ a.1 in
    let c = and_parts (site_fits (is_taken s) s.site) _ b.0 in
    rw (taken s t) (site_known s.site (rw (taken s t) at c.0))

closed_points : (s : Rec) (w : Blocks) (r : Report) → T (rec_fits s) → (o : Option CloseReason) → closing_refusal (filing_of s w) ≡ o → (close_by o s w).answer ≡ reported r → 0 < r.points
unfolding close_by report_of
closed_points s w r f none e q =
    let p : report_of (filing_of s w) ≡ r = cc in
    rw (ap (λ (x : Report). x.points) p) at (points_of (filing_of s w) (known s w f (ended (filing_of s w) e)))
  where
    points_of : (F : Filing) → T (is_known F.site.al F.site.filiere) → 0 < (report_of F).points
    points_of F k = some_point F k
closed_points s w r f (some k) e q = let z : ◌≡◌ {A = ℕ} 0 1 = cc in absurd (omega arith)

pub close_counts : (s : Rec) (w : Blocks) (r : Report) → (close_of s w).answer ≡ reported r → 0 < r.points
unfolding close_of leaves
close_counts s w r q = go (sizes_fit w && (rec_fits s && contents_fit s w)) (is_open s.state) refl q
  where
    parts : T (sizes_fit w && (rec_fits s && contents_fit s w)) → T (rec_fits s)
    parts t = (and_parts (rec_fits s) (contents_fit s w) (and_parts (sizes_fit w) (rec_fits s && contents_fit s w) t).1).0

    go : (a b : Bool) → (sizes_fit w && (rec_fits s && contents_fit s w)) ≡ a
        → (cond a (cond b (close_by (closing_refusal (filing_of s w)) s w) (leaves 13 s w)) (leaves 1 s w)).answer ≡ reported r → 0 < r.points
    go true true e p = closed_points s w r (parts (rw e tt)) (closing_refusal (filing_of s w)) refl p
    go true false e p = let z : ◌≡◌ {A = ℕ} 0 1 = cc in absurd (omega arith)
    go false b e p = let z : ◌≡◌ {A = ℕ} 0 1 = cc in absurd (omega arith)
