-- `states::write` meets its contract.
use borrow.Author.Rules.{rules}
use mathlib.Core.Path.{◌≡◌, sym}
use Prim.Native.Nat.{◌^◌, ◌<◌}
use native.Mathlib.Omega.{arith}
use lib.ListN.{length}
use Rattle.rules.specs.Streams.{stream_bytes}
use Rattle.states.proofs.States.{state_written}
use Rattle.states.proofs.write.Goals as goal

pub returns : goal.returns
returns c =
    let a = c.args in
    let good = c.well_formed in
    let n< : a.stream.now.number < 2 ^ 64 = search rules in
    let h< : a.stream.now.held < 2 ^ 64 = search rules in
    let long : stream_bytes ≡ length a.stream.now.checks = search rules in
    let same = c.store.ensures.length_same in
    let same₂ = c.store-2.ensures.length_same in
    state_written a.stream.now.number a.stream.now.held a.stream.now.checks n< h< c.store.ensures
    c.store-2.ensures (omega (arith, same, same₂)) c.copy.ensures (sym long)
    (λ i. (c.slice_known-4-1.given i).fits)
