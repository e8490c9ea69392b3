-- The request of a block of a script; this project's own choice.
use Rattle.std.specs.Prelude.{ℕ, List, ◌++◌, codes, Option, Some, None}
use Rattle.std.specs.Fmt.{decimal}
use Rattle.dav_resource.specs.PathText.{PathValue}
use Rattle.dav_resource.specs.declared.request.DavRequest.{DavRequest}
use Rattle.dav_script.specs.declared.blocks.Block.{Block}

-- the token for a lock that the request creates, from the block's number
abbrev pub numbered_token : ℕ → List ℕ
numbered_token number = codes "urn:lock:" ++ decimal number

-- the token for a lock that the request creates: the block's own, or the one from its number
abbrev pub chosen_token : ℕ → Option (List ℕ) → List ℕ
chosen_token number (Some token) = token
chosen_token number None = numbered_token number

-- the request of the block with this number, at this time
abbrev pub request_of : ℕ → ℕ → PathValue → Block → DavRequest
request_of number now path block =
    record {
      method = block.method;
      path = path;
      headers = block.headers;
      body = block.body;
      principal = block.principal;
      token = chosen_token number block.token;
      now = now;
    }
