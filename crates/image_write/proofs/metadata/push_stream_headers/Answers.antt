use Rattle.std.proofs.Common.{◌≡◌, List, ℕ, ◌+◌, ◌++◌, codes}
use Rattle.image_write.specs.Image.{stream_header, stream_headers}
use Rattle.image_write.specs.Pieces.{zeros}
use Rattle.image_write.proofs.Appending.{joins, ok_gives}
use Rattle.image_write.proofs.metadata.push_stream_headers.Goals as goal

pub returns : goal.returns
unfolding stream_headers zeros
returns c =
    let a = c.args in
    let n1 = c.push_stream_header.new.out.items in
    let n2 = c.push_stream_header-2.new.out.items in
    let n3 = c.push_stream_header-3.new.out.items in
    let n4 = c.push_stream_header-4.new.out.items in
    let tables : List ℕ = stream_header 108 a.tables (codes "#~" ++ zeros 2) in
    let strings : List ℕ = stream_header (108 + a.tables) a.strings (codes "#Strings" ++ zeros 4) in
    let users : List ℕ = stream_header (108 + a.tables + a.strings) a.users (codes "#US" ++ zeros 1) in
    let guids : List ℕ = stream_header (108 + a.tables + a.strings + a.users) a.guids (codes "#GUID" ++ zeros 3) in
    let blobs : List ℕ = stream_header (108 + a.tables + a.strings + a.users + a.guids) a.blobs (codes "#Blob" ++ zeros 3) in
    let e1 : n1 ≡ a.out.now.items ++ tables = c.in_ok-push_stream_header.ensures in
    let e2 : n2 ≡ n1 ++ strings = c.in_ok-push_stream_header-2.ensures in
    let e3 : n3 ≡ n2 ++ users = c.in_ok-push_stream_header-3.ensures in
    let e4 : n4 ≡ n3 ++ guids = c.in_ok-push_stream_header-4.ensures in
    ok_gives c.push_stream_header-5.result c.push_stream_header-5.ensures
    (λ e.
    joins a.out.now.items tables (strings ++ (users ++ (guids ++ blobs))) n1 _ e1
    (joins n1 strings (users ++ (guids ++ blobs)) n2 _ e2
    (joins n2 users (guids ++ blobs) n3 _ e3 (joins n3 guids blobs n4 _ e4 e))))
