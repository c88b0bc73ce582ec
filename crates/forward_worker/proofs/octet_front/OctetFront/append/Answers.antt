use Rattle.std.proofs.Common.{◌≡◌, ◌≤◌, ◌-◌, ◌++◌, min, length, take, ap, ◌∙◌, arith}
use Rattle.forward_worker.proofs.Octets.{front_more}
use Rattle.forward_worker.proofs.octet_front.OctetFront.append.Goals as goal

pub returns : goal.returns
returns c =
    let old = c.args.self.now in
    let piece = c.args.piece.now in
    let within : length old ≤ 60 = omega (arith, c.octets.ensures.within, ap length c.octets.ensures.octets) in
    let count : c.min-count.result ≡ min (length piece) (60 - length old) =
    c.min-count.ensures ∙ ap (λ l. min (length piece) (60 - length l)) c.octets.ensures.octets in
    c.put.ensures ∙ ap (λ k. old ++ take k piece) count ∙ front_more 60 old piece within
