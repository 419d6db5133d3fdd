use Rattle.std.specs.Prelude.{None}
use mathlib.Core.Path.{◌≡◌, refl}
use mathlib.Core.List.{map}
use borrow.Author.Tests.{le-leb, lt-leb}
use lib.ListN.{get_or}
use Rattle.std.proofs.Common.{rules, tests}
use Rattle.lists.proofs.Chains.{made_by}
use Rattle.meaning.specs.Blocks.{is_near, near_start, far_start}
use Rattle.blocks.specs.PointStores.{point_code, near_put, far_put}
use Rattle.blocks.proofs.Runs.{mapped}
use Rattle.blocks.proofs.point_rows.put_points.Goals as goal

pub returns-then-al-year : goal.returns-then-al-year
unfolding near_put far_put is_near near_start
returns-then-al-year c =
    let e : c.from_fn-codes.result ≡ map point_code c.args.points.now =
    mapped None point_code _ _ c.requires.0 (made_by _ (λ k. point_code (get_or c.args.points.now k None)) 0 _ 20 _ c.from_fn-codes.ensures.items (λ x b r q k. search (rules, tests))) in
    rw (le-leb _ _ c.if-al-year.true, ← e) (c.put_day.ensures, refl)

pub returns-else-al-year : goal.returns-else-al-year
unfolding near_put far_put is_near far_start
returns-else-al-year c =
    let e : c.from_fn-codes.result ≡ map point_code c.args.points.now =
    mapped None point_code _ _ c.requires.0 (made_by _ (λ k. point_code (get_or c.args.points.now k None)) 0 _ 20 _ c.from_fn-codes.ensures.items (λ x b r q k. search (rules, tests))) in
    rw (lt-leb _ _ c.if-al-year.false, ← e) (refl, c.put_day-else-al-year.ensures)
