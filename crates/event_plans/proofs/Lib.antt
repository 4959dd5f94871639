mod RoomLaws
