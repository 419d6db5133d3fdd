use Rattle.std.proofs.Common.{◌≡◌, ℕ, List, sym, ◌∙◌, refl, arith}
use Rattle.std.proofs.lemmas.List.{ext_get_or, get_or-replicate, length-replicate}
use Rattle.std.proofs.Math.ListN.{replicate}
use Rattle.std.specs.Array.{AllOfLen}
use Rattle.std.specs.Prelude.{None}
use Rattle.meaning.specs.Filing.{no_site}
use Rattle.meaning.specs.Record.{empty_rec}
use Rattle.record_calls.proofs.Record.empty.Goals as goal

-- an array of numbers by default
zeros : {xs : List ℕ} {n : ℕ} → AllOfLen (λ x. x ≡ 0) xs n → xs ≡ replicate n 0
zeros {xs} {n} a =
    ext_get_or 0 xs (replicate n 0) (a.long ∙ sym (length-replicate n 0))
    (λ i l. a.at i 0 (omega (arith, l, a.long)) ∙ sym (get_or-replicate n i 0 0 (omega (arith, l, a.long))))

pub returns : goal.returns
unfolding empty_rec no_site
returns c =
    let p = c.default.result in
    let h = c.default.ensures in
    let s = h.1.0 in
    let last : p.last ≡ 0 = h.0 in
    let al : p.site.al ≡ 0 = s.0 in
    let filiere : p.site.filiere ≡ 0 = s.1.0 in
    let meter : p.site.meter ≡ None = s.1.1.0 in
    let ps : p.site.ps.0 ≡ 0 = s.1.1.1 in
    let d = h.1.1 in
    let l = d.1.1.0 in
    let t = d.1.1.1 in
    rw (last, al, filiere, meter, ps, d.0, d.1.0, l.0, l.1.0, l.1.1.0, l.1.1.1.0, l.1.1.1.1.0, l.1.1.1.1.1, zeros t.0, zeros t.1.0, zeros t.1.1.0, zeros t.1.1.1) refl
