use Rattle.std.proofs.Common.{arith, rules}
use Rattle.text.proofs.Putting.{put_then}
use Rattle.listing.specs.Lines.{found_text}
use Rattle.listing.proofs.Putting.{lines_short}
use Rattle.listing.proofs.lines.put_found.Goals as goal

pub put_line-at-requires : goal.put_line-at-requires
put_line-at-requires c =
    let a = c.args in
    let s = lines_short a.pointer a.state.logend a.state.ondisk.0 a.state.lastid.0 a.undone (search rules) (search rules) (search rules) (search rules) c.requires.1 in
    omega arith

pub put_line-at-requires-2 : goal.put_line-at-requires-2
put_line-at-requires-2 c =
    let a = c.args in
    let s = lines_short a.pointer a.state.logend a.state.ondisk.0 a.state.lastid.0 a.undone (search rules) (search rules) (search rules) (search rules) c.requires.1 in
    omega arith

pub put_line-at-requires-3 : goal.put_line-at-requires-3
put_line-at-requires-3 c =
    let a = c.args in
    let s = lines_short a.pointer a.state.logend a.state.ondisk.0 a.state.lastid.0 a.undone (search rules) (search rules) (search rules) (search rules) c.requires.1 in
    omega arith

pub put_line-at-requires-4 : goal.put_line-at-requires-4
put_line-at-requires-4 c =
    let a = c.args in
    let s = lines_short a.pointer a.state.logend a.state.ondisk.0 a.state.lastid.0 a.undone (search rules) (search rules) (search rules) (search rules) c.requires.1 in
    omega arith

pub put_line-requires : goal.put_line-requires
put_line-requires c =
    let a = c.args in
    let s = lines_short a.pointer a.state.logend a.state.ondisk.0 a.state.lastid.0 a.undone (search rules) (search rules) (search rules) (search rules) c.requires.1 in
    omega arith

pub returns : goal.returns
unfolding found_text
returns c =
    put_then c.put_line-at.ensures
    (put_then c.put_line-at-2.ensures (put_then c.put_line-at-3.ensures (put_then c.put_line-at-4.ensures c.put_line.ensures)))
