use Rattle.std.proofs.Common.{◌∷◌, [], map, arith, subst, sym, rules}
use Rattle.std.proofs.lemmas.List.{length-map, map-append}
use Rattle.std.specs.List.{AllByRecursion}
use Rattle.cover_table.proofs.Between.{all_append}
use Rattle.live_rounds.specs.Seats.{identity_of, list_of, opening_of}
use Rattle.live_rounds.specs.Stations.{IsReady, IsTold, station_of}
use Rattle.live_run.specs.Hiring.{AreNew}
use Rattle.live_run.proofs.Hired.{new_next, parts_next}
use Rattle.live_run.proofs.hiring.hire.Goals as goal

pub loop-source-preserved : goal.loop-source-preserved
loop-source-preserved g c =
    let made = c.loop-source.workers.items in
    let one = c.new-worker.result in
    let is = c.new-worker.ensures in
    let kept = c.loop-source.invariant in
    let left = station_of g.P.PacketSource.left in
    let Ready = IsReady identity_of opening_of list_of g.P.PacketSource.left g.J.Naming.opening [] in
    record {
      parts = parts_next (λ w. w.packets) made c.push_reserved.new.self.items c.pop.new.self.items
          c.loop-source.packets.items c.args.packets.now.items one c.in-Some.source kept.parts c.in-Some.ensures.items
          c.push_reserved.ensures.items is.packets;
      new = subst (λ ws. AreNew 0 (map left ws)) (sym c.push_reserved.ensures.items)
          (subst (AreNew 0) (sym (map-append left made (one ∷ [])))
          (new_next 0 (map left made) (left one) kept.new (record {
            worker = omega (arith, is.worker, kept.number, length-map made left);
            place = is.none.0;
            taken = is.none.1;
            limit = is.limit;
            ended = is.ended;
          })));
      ready = subst (AllByRecursion Ready) (sym c.push_reserved.ensures.items)
          (all_append Ready made (one ∷ []) kept.ready (
            (
              (omega (arith, is.none.0), omega (arith, is.none.1), omega (arith, is.limit)),
              subst (λ s. IsTold (identity_of s) (opening_of s) (list_of s) g.J.Naming.opening []) (sym is.place)
                  c.seat.ensures.none,
            ),
            tt,
          ));
      number = search rules;
      counted = search rules;
      room = search rules;
      kept = search rules;
      fresh = c.seat.ensures.fresh;
    }
