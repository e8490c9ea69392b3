-- Encodings and refusals, written out.
use Rattle.std.proofs.Common.{◌≡◌, ℕ, true, List, [], ◌∷◌, ◌++◌, Some, None, refl, codes, false}
use Rattle.dav_resource.specs.Tree.{Tree, no_nodes, text_then, element_then}
use Rattle.std.specs.Str.{is_utf8, chars}
use lib.Utf8.{encode}
use Rattle.dav_wire.specs.Codec.{decode}
use Rattle.dav_wire.specs.Numbers.{number}
use Rattle.dav_wire.specs.Values.{text, utf8_text, flag, optional}
use Rattle.dav_resource.specs.declared.request.ReqBody.TheVariants as body
use Rattle.dav_wire.specs.Fields.{field, fields}
use Rattle.dav_wire.specs.Bodies.{request_body}
use Rattle.dav_wire.specs.Frames.{frame, request, read, unlock, modified, add}
use Rattle.dav_wire.specs.Frames as frames
use Rattle.dav_wire.specs.Replies.{reply, response, held, quota, explained, lock, locks}
use Rattle.dav_wire.specs.Replies as replies
use Rattle.dav_wire.specs.Batches.{batch, reply_header, batch_header}
use Rattle.dav_wire.specs.Trees.{attribute, attributes, tag, one_node, nodes, element_over, tree}

-- a number of one byte
abbrev small : ℕ → List ℕ
small n = 0 ∷ 0 ∷ 0 ∷ 0 ∷ 0 ∷ 0 ∷ 0 ∷ n ∷ []

number_258 : number.encode 258 ≡ 0 ∷ 0 ∷ 0 ∷ 0 ∷ 0 ∷ 0 ∷ 1 ∷ 2 ∷ []
unfolding number
number_258 = refl

-- <a k="v">t<b/></a>, without namespaces
abbrev tree_a : Tree
tree_a =
    record {
      tag = record { name = codes "a"; prefix = None; namespace = None; attributes = (codes "k", codes "v") ∷ [] };
      children =
          text_then (codes "t")
          (element_then (record { name = codes "b"; prefix = None; namespace = None; attributes = [] }) no_nodes no_nodes);
    }

abbrev bytes_a : List ℕ
bytes_a =
    small 1 ++ codes "a" ++ 0 ∷ 0 ∷ small 1 ++ small 1 ++ codes "k" ++ small 1 ++ codes "v"
    ++ 2 ∷ small 1 ++ codes "t" ++ 1 ∷ small 1 ++ codes "b" ++ 0 ∷ 0 ∷ small 0 ++ 0 ∷ 0 ∷ []

encode_a : (tree 2).encode tree_a ≡ bytes_a
unfolding tree element_over nodes one_node tag attributes attribute utf8_text text number is_utf8 chars encode
encode_a = refl

decode_a : decode (tree 2) bytes_a ≡ Some tree_a
unfolding tree element_over nodes one_node tag attributes attribute utf8_text text number is_utf8 chars encode
decode_a = refl

-- one level is too few, and a byte after the tree is refused
decode_a-deep : decode (tree 1) bytes_a ≡ None
unfolding tree element_over nodes one_node tag attributes attribute utf8_text text number is_utf8 chars encode
decode_a-deep = refl

decode_a-longer : decode (tree 2) (bytes_a ++ 0 ∷ []) ≡ None
unfolding tree element_over nodes one_node tag attributes attribute utf8_text text number is_utf8 chars encode
decode_a-longer = refl

-- a key twice, and an option's byte that is neither 0 nor 1
twice : decode attributes (small 2 ++ small 1 ++ codes "k" ++ small 0 ++ small 1 ++ codes "k" ++ small 0) ≡ None
unfolding attributes attribute utf8_text text number is_utf8 chars encode
twice = refl

option_2 : decode (optional utf8_text) (2 ∷ small 0) ≡ None
unfolding utf8_text text number is_utf8 chars encode
option_2 = refl

-- no UTF-8
not_utf8 : decode utf8_text (small 1 ++ 255 ∷ []) ≡ None
unfolding utf8_text text number is_utf8 chars encode
not_utf8 = refl

-- ---- frames

-- PUT / with the field A: b and the body x
put : frame.encode
    (frames.Request
    (record { method = codes "PUT"; path = codes "/"; principal = None; token = codes "t"; fields = (codes "A", codes "b") ∷ []; body = body.Bytes (codes "x") }))
    ≡ 0 ∷ small 3 ++ codes "PUT" ++ small 1 ++ codes "/" ++ 0 ∷ small 1 ++ codes "t"
    ++ small 1 ++ small 1 ++ codes "A" ++ small 1 ++ codes "b" ++ 1 ∷ small 1 ++ codes "x"
unfolding frame request request_body fields field utf8_text text number
put = refl

read_a : frame.encode (frames.Read (record { principal = None; path = codes "/a"; place = 3; length = 4; version = Some (codes "v") }))
    ≡ 4 ∷ 0 ∷ small 2 ++ codes "/a" ++ small 3 ++ small 4 ++ 1 ∷ small 1 ++ codes "v"
unfolding frame read utf8_text text number
read_a = refl

add_7 : decode frame (2 ∷ small 9 ++ small 1 ++ 7 ∷ []) ≡ Some (frames.AddToBody 9 (7 ∷ []))
unfolding frame add text number
add_7 = refl

end_8 : decode frame (8 ∷ []) ≡ Some frames.EndBackup
unfolding frame
end_8 = refl

rules_9 : decode frame (9 ∷ small 1 ++ codes "x") ≡ Some (frames.SetRights (codes "x"))
unfolding frame utf8_text text number is_utf8 chars encode
rules_9 = refl

locks_11 : decode frame (11 ∷ []) ≡ Some frames.ListLocks
unfolding frame
locks_11 = refl

unlock_12 : decode frame (12 ∷ small 1 ++ codes "/" ++ small 1 ++ codes "t") ≡ Some (frames.RemoveLock (record { path = codes "/"; token = codes "t" }))
unfolding frame unlock utf8_text text number is_utf8 chars encode
unlock_12 = refl

modified_13 : decode frame (13 ∷ small 1 ++ codes "/" ++ small 7) ≡ Some (frames.SetModified (record { path = codes "/"; time = 7 }))
unfolding frame modified utf8_text text number is_utf8 chars encode
modified_13 = refl

-- a byte of no variant, and a byte after a frame
unknown : decode frame (14 ∷ []) ≡ None
unfolding frame
unknown = refl

longer : decode frame (1 ∷ 0 ∷ []) ≡ None
unfolding frame
longer = refl

-- ---- replies

multi_status : reply.encode
    (replies.Response (record { status = 207; close = true; fields = []; tree = Some (record { tag = record { name = codes "b"; prefix = None; namespace = None; attributes = [] }; children = no_nodes }) }))
    ≡ 0 ∷ small 207 ++ 1 ∷ small 0 ++ 1 ∷ small 1 ++ codes "b" ++ 0 ∷ 0 ∷ small 0 ++ 0 ∷ []
unfolding reply response fields flag tree element_over nodes tag attributes utf8_text text number
multi_status = refl

explained_3 : reply.encode (replies.Explained (record { rule = Some 3; list = true; read = false; write = true })) ≡ 9 ∷ 1 ∷ small 3 ++ 1 ∷ 0 ∷ 1 ∷ []
unfolding reply explained flag number
explained_3 = refl

held_2 : reply.encode (replies.Held (record { locks = 2; quota = Some (3, None) })) ≡ 6 ∷ small 2 ++ 1 ∷ small 3 ++ 0 ∷ []
unfolding reply held quota number
held_2 = refl

locks_10 : reply.encode (replies.Locks (record { token = codes "t"; path = codes "/a"; principal = None; deep = true; shared = false; expires = Some 9 } ∷ []))
    ≡ 10 ∷ small 1 ++ small 1 ++ codes "t" ++ small 2 ++ codes "/a" ++ 0 ∷ 1 ∷ 0 ∷ 1 ∷ small 9
unfolding reply locks lock flag utf8_text text number
locks_10 = refl

-- ---- batches

two_frames : decode batch (small 2 ++ small 1 ++ 5 ∷ small 0) ≡ Some ((5 ∷ []) ∷ [] ∷ [])
unfolding batch text number
two_frames = refl

too_few : decode batch (small 2 ++ small 1 ++ 5 ∷ []) ≡ None
unfolding batch text number
too_few = refl

header : decode batch_header (small 1 ++ small 2 ++ small 3) ≡ Some (record { number = 1; now = 2; length = 3 })
unfolding batch_header number
header = refl

large_status : decode reply_header (small 1 ++ (0 ∷ 0 ∷ 0 ∷ 0 ∷ 0 ∷ 1 ∷ 0 ∷ 0 ∷ []) ++ small 3) ≡ None
unfolding reply_header number
large_status = refl
