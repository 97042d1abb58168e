mod Parts
mod Pieces
mod PuttingIn
mod Typed
mod ArgumentLists
mod OneReading
mod ValueReading
